use Rattle.std.proofs.Common.{[], ◌∷◌}
use Rattle.facts.specs.declared.contexts.Fact.{Fact}
use Rattle.inference.specs.Derivations.{Derived}
use Rattle.inference.specs.Completeness.{DrawnUpToRedundancy}
use Rattle.inference.proofs.Growth.{grows_trans}
use Rattle.inference.proofs.Drawing.{draws, for_each, for_each_but, for_each_more, next_there}
use Rattle.inference.proofs.Giving.{nothing_missing}
use Rattle.inference.proofs.Redundancy.{all_drawn, up_to_redundancy_still}
use Rattle.inference.proofs.rules.Rules.meet_behind.Goals as goal
use Rattle.inference.proofs.rules.Rules.meet_behind.Goals.{then-may_carry+in_ok-draw_two, else-may_carry}

pub may_carry-requires : goal.may_carry-requires
may_carry-requires c = next_there c.loop-number.invariant.grows c.args.numbers.now c.loop-number.number-index c.requires.numbers c.loop-number-test.true

pub get-requires : goal.get-requires
get-requires c = next_there c.loop-number.invariant.grows c.args.numbers.now c.loop-number.number-index c.requires.numbers c.loop-number-test.true

pub loop-number-preserved : goal.loop-number-preserved
loop-number-preserved c =
    let k = c.args.self.now.problem.now in
    let f = c.args.hand.fact in
    let P = λ (d : Derived) (g : Fact). DrawnUpToRedundancy k (g ∷ f ∷ []) d in
    let numbers = c.args.numbers.now in
    let i = c.loop-number.number-index in
    let before = c.loop-number.invariant in
    elim c.if-may_carry.branch [
      | then-may_carry+in_ok-draw_two w ↦ rw w.facts-is (record {
        grows = grows_trans before.grows w.draw_two.ensures.grows;
        met = for_each_more before.grows (P c.loop-number.facts) (P w.draw_two.new.facts) numbers i _ c.loop-number-test.true w.get.ensures before.met
            (λ g d. up_to_redundancy_still w.draw_two.ensures.grows (g ∷ f ∷ []) d) (all_drawn k _ _ w.in_ok-draw_two.ensures.drawn);
      })
      | else-may_carry w ↦ rw w.facts-is (record {
        grows = before.grows;
        met = for_each_but before.grows (P c.loop-number.facts) numbers i c.loop-number-test.true before.met
            (λ g at. nothing_missing k g f c.loop-number.facts (c.may_carry.ensures w.if-may_carry.false g f c.requires.filled at));
      })
    ]

pub returns : goal.returns
returns c = draws c.loop-number.invariant.grows (for_each _ _ c.args.numbers.now c.loop-number.number-index c.loop-number-test.false c.loop-number.invariant.met)
