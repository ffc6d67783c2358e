use Rattle.std.proofs.Common.{[], ◌∷◌}
use Rattle.facts.specs.declared.contexts.Fact.{Fact}
use Rattle.inference.specs.Derivations.{Derived}
use Rattle.inference.specs.Visits.{IsEdge}
use Rattle.inference.specs.Completeness.{DrawnUpToRedundancy}
use Rattle.inference.proofs.Growth.{grows_trans}
use Rattle.inference.proofs.Drawing.{draws, for_each, for_each_but, for_each_more, next_there}
use Rattle.inference.proofs.Giving.{nothing_missing}
use Rattle.inference.proofs.Marking.{edge_by_ends}
use Rattle.inference.proofs.Meeting.{kind_read, numbers_within}
use Rattle.inference.proofs.Redundancy.{all_drawn, up_to_redundancy_still}
use Rattle.inference.proofs.rules.Rules.join_behind.Goals as goal
use Rattle.inference.proofs.rules.Rules.join_behind.Goals.{then-may_lead+in_ok-draw_edges, else-may_lead}

pub get-requires : goal.get-requires
get-requires c = next_there c.loop-number.invariant.grows c.args.numbers.now c.loop-number.number-index (numbers_within IsEdge c.args.facts.now.facts c.args.numbers.now c.requires.numbers) c.loop-number-test.true

pub draw_edges-requires-clause-edge : goal.draw_edges-requires-clause-edge
draw_edges-requires-clause-edge c = kind_read c.loop-number.invariant.grows IsEdge c.args.numbers.now c.loop-number.number-index c.get.result c.requires.numbers c.loop-number-test.true c.get.ensures

pub draw_edges-requires-clause-other : goal.draw_edges-requires-clause-other
draw_edges-requires-clause-other c = edge_by_ends c.args.self.now.problem.now.forms c.args.ends c.args.hand.fact c.requires.ends

pub loop-number-preserved : goal.loop-number-preserved
loop-number-preserved c =
    let k = c.args.self.now.problem.now in
    let f = c.args.hand.fact in
    let P = λ (d : Derived) (g : Fact). DrawnUpToRedundancy k (g ∷ f ∷ []) d in
    let numbers = c.args.numbers.now in
    let i = c.loop-number.number-index in
    let before = c.loop-number.invariant in
    elim c.if-may_lead.branch [
      | then-may_lead+in_ok-draw_edges w ↦ rw w.facts-is (record {
        grows = grows_trans before.grows w.draw_edges.ensures.grows;
        met = for_each_more before.grows (P c.loop-number.facts) (P w.draw_edges.new.facts) numbers i _ c.loop-number-test.true w.get.ensures before.met
            (λ g d. up_to_redundancy_still w.draw_edges.ensures.grows (g ∷ f ∷ []) d) (all_drawn k _ _ w.in_ok-draw_edges.ensures.drawn);
      })
      | else-may_lead w ↦ rw w.facts-is (record {
        grows = before.grows;
        met = for_each_but before.grows (P c.loop-number.facts) numbers i c.loop-number-test.true before.met
            (λ g at. nothing_missing k g f c.loop-number.facts (c.may_lead.ensures w.if-may_lead.false g f c.requires.ends at));
      })
    ]

pub returns : goal.returns
returns c = draws c.loop-number.invariant.grows (for_each _ _ c.args.numbers.now c.loop-number.number-index c.loop-number-test.false c.loop-number.invariant.met)
