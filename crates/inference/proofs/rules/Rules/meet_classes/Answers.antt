use Rattle.std.proofs.Common.{arith}
use Rattle.inference.specs.Visits.{IsClassFact}
use Rattle.inference.proofs.Growth.{grows_trans}
use Rattle.inference.proofs.Drawing.{draws}
use Rattle.inference.proofs.Lists.{Contains-from_slice_get}
use Rattle.inference.proofs.Meeting.{numbers_within, kind_of}
use Rattle.inference.proofs.Intersections.{met_by_operands, operands_met_still}
use Rattle.inference.proofs.Parting.{parted}
use Rattle.inference.proofs.rules.Rules.meet_classes.Goals as goal

pub meet_apart-requires-clause-apart : goal.meet_apart-requires-clause-apart
meet_apart-requires-clause-apart c = λ b is. (c.in-Some.ensures.apart b).0 is

pub meet_apart-requires-clause-numbers : goal.meet_apart-requires-clause-numbers
meet_apart-requires-clause-numbers c = λ n there. omega (arith, numbers_within IsClassFact c.args.facts.now.facts c.args.numbers.now c.requires.numbers n there, c.meet_operands.ensures.grows.longer)

pub meet_all-requires-clause-numbers : goal.meet_all-requires-clause-numbers
meet_all-requires-clause-numbers c = numbers_within IsClassFact c.args.facts.now.facts c.args.numbers.now c.requires.numbers

pub returns-in_ok-meet_apart-in-Some : goal.returns-in_ok-meet_apart-in-Some
returns-in_ok-meet_apart-in-Some c =
    let k = c.args.self.now.problem.now in
    let old = c.args.facts.now.facts in
    let x = c.args.hand.context in
    let few = c.in-Some.few in
    let s = c.meet_operands.ensures.grows in
    let t = c.meet_apart.ensures.grows in
    draws (grows_trans s t) (λ n there g at. met_by_operands k old c.args.hand.class x g c.meet_apart.new.facts few.first.now few.second.now few.apart
    (kind_of IsClassFact old c.args.numbers.now c.requires.numbers n there g at)
    (Contains-from_slice_get old c.args.hand.number _ c.requires.hand) (Contains-from_slice_get old n g at) (λ m under. (c.in-Some.ensures.first m).1 under) (λ m under. (c.in-Some.ensures.second m).1 under) (λ b apart. (c.in-Some.ensures.apart b).1 apart)
    (operands_met_still t old few.first.now few.second.now x c.in_ok-meet_operands-in-Some.ensures.drawn)
    (parted s few.apart x c.args.numbers.now n there g c.meet_apart.new.facts.facts at c.in_ok-meet_apart-in-Some.ensures.drawn))
