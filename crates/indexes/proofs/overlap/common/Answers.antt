use Rattle.std.proofs.Common.{sym, ◌∙◌}
use Rattle.indexes.proofs.overlap.common.Goals as goal
use Rattle.indexes.proofs.overlap.common.Goals.{then-ends_before, else-ends_before}

pub returns-then-ends_before-2-clause-all : goal.returns-then-ends_before-2-clause-all
returns-then-ends_before-2-clause-all c = λ n a b. absurd (elim c.if-ends_before.branch [
  | then-ends_before w ↦ c.ends_before.ensures w.if-ends_before.true n a b
  | else-ends_before w ↦ w.ends_before-else-ends_before.ensures (sym w.value-is ∙ c.if-ends_before-2.true) n b a
])
