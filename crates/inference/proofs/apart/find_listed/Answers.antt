use Rattle.std.proofs.lemmas.List.Elements.{Contains-get_or}
use Rattle.inference.proofs.Parting.{none_listed, none_listed_more}
use Rattle.inference.proofs.apart.find_listed.Goals as goal

pub is_apart_in-requires : goal.is_apart_in-requires
is_apart_in-requires c = c.requires _ (Contains-get_or c.args.numbers.now c.loop-number.number-index 0 c.loop-number-test.true)

pub loop-number-preserved : goal.loop-number-preserved
loop-number-preserved c =
    none_listed_more c.args.apart.now c.args.context c.args.facts.now.facts c.args.numbers.now c.loop-number.number-index c.loop-number-test.true c.loop-number.invariant
    (c.is_apart_in.ensures.no c.if-is_apart_in.false)

pub returns-clause-none : goal.returns-clause-none
returns-clause-none c = λ _. none_listed c.args.apart.now c.args.context c.args.facts.now.facts c.args.numbers.now c.loop-number.number-index c.loop-number-test.false c.loop-number.invariant
