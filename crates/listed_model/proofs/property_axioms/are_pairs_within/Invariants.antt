use Rattle.std.proofs.Common.{◌≡◌, ℕ, map, true}
use Rattle.certificate.specs.View.{pair_row_of, targets_in}
use Rattle.certificate.specs.declared.listed.PairRow.{PairRow}
use Rattle.listed_model.specs.Listing.{targets_of}
use Rattle.listed_model.specs.Members.{holds}
use Rattle.listed_model.specs.Rows.{AllBefore}
use Rattle.listed_model.proofs.property_axioms.are_pairs_within.Given as goal

abbrev pub invariant-loop-row : goal.invariant-loop-row
invariant-loop-row l = AllBefore (λ (row : PairRow). (y : ℕ) → holds (targets_in row.targets) y ≡ true → holds (targets_of (map pair_row_of l.rows) l.fn.above.0 row.source) y ≡ true) l.row-items l.row-index
