use Rattle.inference.proofs.Visiting.{for_one}
use Rattle.inference.proofs.visits.visited_by_one.Goals as goal

pub returns-in-In : goal.returns-in-In
returns-in-In c = λ n form f at gives. (c.alone.ensures n).1 (form, at, rw c.in-In.is at (for_one c.args.problem.now form c.args.first f gives))

pub returns-in-Edge : goal.returns-in-Edge
returns-in-Edge c = λ n form f at gives.
    let w = rw c.in-Edge.is at (for_one c.args.problem.now form c.args.first f gives) in
    (c.denied_between.ensures n).1 (rw (w.2, w.3) ((form, at, w.4), (form, at, w.5)))
