use Rattle.std.proofs.Common.{arith}
use Rattle.std.proofs.lemmas.Option.{slice_get_within}
use Rattle.number_sets.proofs.Members.{one_taken}
use Rattle.property_closure.proofs.closure.alone.Goals as goal

pub returns-then-place-list-clause-there : goal.returns-then-place-list-clause-there
returns-then-place-list-clause-there c = λ p g. one_taken c.args.list.now c.args.place p g

pub returns-else-place-list-clause-there : goal.returns-else-place-list-clause-there
returns-else-place-list-clause-there c = λ p g. absurd (omega (arith, slice_get_within c.args.list.now c.args.place p g, c.if-place-list.false))
