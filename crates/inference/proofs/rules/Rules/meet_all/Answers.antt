use Rattle.facts.specs.declared.contexts.Fact.{Fact}
use Rattle.inference.specs.Derivations.{Derived}
use Rattle.inference.specs.Completeness.{MeetEachOther}
use Rattle.inference.proofs.Growth.{grows_trans}
use Rattle.inference.proofs.Drawing.{draws, for_each, for_each_more, met_still, next_there}
use Rattle.inference.proofs.rules.Rules.meet_all.Goals as goal

pub get-requires : goal.get-requires
get-requires c = next_there c.loop-number.invariant.grows c.args.numbers.now c.loop-number.number-index c.requires.numbers c.loop-number-test.true

pub loop-number-preserved : goal.loop-number-preserved
loop-number-preserved c =
    let k = c.args.self.now.problem.now in
    let f = c.args.hand.fact in
    let P = λ (d : Derived) (g : Fact). MeetEachOther k f g d in
    let s = c.loop-number.invariant.grows in
    let t = c.meet.ensures.grows in
    record {
      grows = grows_trans s t;
      met = for_each_more s (P c.loop-number.facts) (P c.meet.new.facts) c.args.numbers.now c.loop-number.number-index _ c.loop-number-test.true c.get.ensures c.loop-number.invariant.met
          (λ g w. met_still t f g w) c.in_ok-meet.ensures.drawn;
    }

pub returns : goal.returns
returns c = draws c.loop-number.invariant.grows (for_each _ _ c.args.numbers.now c.loop-number.number-index c.loop-number-test.false c.loop-number.invariant.met)
