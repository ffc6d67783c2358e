use Rattle.inference.proofs.Visiting.{for_two}
use Rattle.inference.proofs.visits.visited_by_two.Goals as goal

pub returns-in-In-In : goal.returns-in-In-In
returns-in-In-In c = λ n form f at none unfilled gives.
    let w = rw (c.in-In-In.is-0, c.in-In-In.is-1) at (for_two c.args.problem.now form c.args.first c.args.second f none unfilled gives) in
    c.intersections.ensures.all n (form, at, w.0) (form, at, w.1)
