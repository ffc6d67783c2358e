use Rattle.std.proofs.Common.{◌≡◌, ℕ, map, length, true}
use Rattle.axioms.specs.View.{prop_numbers}
use Rattle.certificate.specs.View.{pair_row_of, targets_in}
use Rattle.certificate.specs.declared.listed.PairRow.{PairRow}
use Rattle.listed_model.specs.Listing.{targets_of}
use Rattle.listed_model.specs.Members.{holds}
use Rattle.listed_model.specs.Rows.{AllBefore, AreEnds, HasListedPath}
use Rattle.listed_model.proofs.paths.is_chain_within.Given as goal

abbrev pub invariant-loop-row : goal.invariant-loop-row
invariant-loop-row l = record {
  len : length l.seen ≡ length l.fn.seen;
  last : AreEnds (map pair_row_of l.rows) (prop_numbers l.paths.chain.now) l.last l.ends.items;
  each : AllBefore (λ (row : PairRow). (z y : ℕ) → holds (targets_in row.targets) z ≡ true → HasListedPath (map pair_row_of l.rows) (prop_numbers l.paths.chain.now) z y → holds (targets_of (map pair_row_of l.rows) l.fn.above.0 row.source) y ≡ true) l.items l.row-index;
}
