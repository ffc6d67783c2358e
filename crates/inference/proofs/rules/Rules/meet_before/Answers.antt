use Rattle.std.proofs.Common.{[], ◌∷◌}
use Rattle.facts.specs.declared.contexts.Fact.{Fact}
use Rattle.inference.specs.Derivations.{Derived}
use Rattle.inference.specs.Completeness.{DrawnUpToRedundancy}
use Rattle.inference.proofs.Growth.{grows_trans}
use Rattle.inference.proofs.Drawing.{draws, for_each, for_each_more, next_there}
use Rattle.inference.proofs.Giving.{nothing_missing}
use Rattle.inference.proofs.Redundancy.{all_drawn, up_to_redundancy_still}
use Rattle.inference.proofs.rules.Rules.meet_before.Goals as goal
use Rattle.inference.proofs.rules.Rules.meet_before.Goals.{then-may_fill+in_ok-draw_two, else-may_fill}

pub get-requires : goal.get-requires
get-requires c = next_there c.loop-number.invariant.grows c.args.numbers.now c.loop-number.number-index c.requires.numbers c.loop-number-test.true

pub loop-number-preserved : goal.loop-number-preserved
loop-number-preserved c =
    let k = c.args.self.now.problem.now in
    let f = c.args.hand.fact in
    let P = λ (d : Derived) (g : Fact). DrawnUpToRedundancy k (f ∷ g ∷ []) d in
    let numbers = c.args.numbers.now in
    let i = c.loop-number.number-index in
    let before = c.loop-number.invariant in
    elim c.if-may_fill.branch [
      | then-may_fill+in_ok-draw_two w ↦ rw w.facts-is (record {
        grows = grows_trans before.grows w.draw_two.ensures.grows;
        met = for_each_more before.grows (P c.loop-number.facts) (P w.draw_two.new.facts) numbers i _ c.loop-number-test.true c.get.ensures before.met
            (λ g d. up_to_redundancy_still w.draw_two.ensures.grows (f ∷ g ∷ []) d) (all_drawn k _ _ w.in_ok-draw_two.ensures.drawn);
      })
      | else-may_fill w ↦ rw w.facts-is (record {
        grows = before.grows;
        met = for_each_more before.grows (P c.loop-number.facts) (P c.loop-number.facts) numbers i _ c.loop-number-test.true c.get.ensures before.met
            (λ g d. d) (nothing_missing k f c.get.result c.loop-number.facts (c.may_fill.ensures w.if-may_fill.false f c.requires.above));
      })
    ]

pub returns : goal.returns
returns c = draws c.loop-number.invariant.grows (for_each _ _ c.args.numbers.now c.loop-number.number-index c.loop-number-test.false c.loop-number.invariant.met)
