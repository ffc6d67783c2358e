use Rattle.inference.proofs.Giving.{uncarried}
use Rattle.inference.proofs.visits.is_filler.Goals as goal

pub returns-in-In : goal.returns-in-In
returns-in-In c = λ no. rw c.in-In.is (uncarried c.args.problem.now c.in-In.class c.in-In.field-1 (c.is_carried.ensures.nothing no) (c.is_carried.ensures.filler no))
