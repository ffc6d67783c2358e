use Rattle.inference.proofs.Parting.{found_beside, none_found_beside}
use Rattle.inference.proofs.apart.find_apart.Goals as goal

pub returns-in-Some-clause-some : goal.returns-in-Some-clause-some
returns-in-Some-clause-some c = found_beside c.args.apart.now c.args.context c.args.facts.now.facts c.in-Some.few c.in-Some.ensures.only c.find_beside.result c.find_beside.ensures.some

pub returns-in-Some-clause-none : goal.returns-in-Some-clause-none
returns-in-Some-clause-none c = λ none. none_found_beside c.args.apart.now c.args.context c.args.facts.now.facts c.in-Some.few c.in-Some.ensures.all (c.find_beside.ensures.none none) c.args.numbers.now
