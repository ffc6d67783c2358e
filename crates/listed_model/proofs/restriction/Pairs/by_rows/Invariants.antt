use Rattle.std.proofs.Common.{◌≡◌, ◌↔◌, ℕ, true}
use Rattle.std.specs.List.{list_any}
use Rattle.certificate.specs.View.{targets_in}
use Rattle.certificate.specs.declared.listed.PairRow.{PairRow}
use Rattle.listed_model.specs.Members.{holds}
use Rattle.listed_model.specs.Rows.{SomeBefore}
use Rattle.listed_model.proofs.restriction.Pairs.by_rows.Given as goal

abbrev pub invariant-loop-row : goal.invariant-loop-row
invariant-loop-row l = (x : ℕ) → (holds l.sources.items x ≡ true) ↔ SomeBefore (λ (row : PairRow). (row.source ≡ x) × (list_any (holds l.fillers) (targets_in row.targets) ≡ true)) l.row-items l.row-index
