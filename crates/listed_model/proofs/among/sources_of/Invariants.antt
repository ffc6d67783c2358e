use Rattle.std.proofs.Common.{◌≡◌, ◌↔◌, ℕ, true}
use Rattle.certificate.specs.declared.listed.PairRow.{PairRow}
use Rattle.listed_model.specs.Members.{holds}
use Rattle.listed_model.specs.Rows.{SomeBefore}
use Rattle.listed_model.proofs.among.sources_of.Given as goal

abbrev pub invariant-loop-row : goal.invariant-loop-row
invariant-loop-row l = (x : ℕ) → (holds l.sources.items x ≡ true) ↔ SomeBefore (λ (row : PairRow). row.source ≡ x) l.row-items l.row-index
