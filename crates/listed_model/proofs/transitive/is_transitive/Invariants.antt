use Rattle.std.proofs.Common.{◌≡◌, ℕ, ◌<◌, take, map, length, get_or, true}
use Rattle.certificate.specs.View.{pair_row_of}
use Rattle.certificate.specs.declared.listed.PairRow.{PairRow}
use Rattle.number_sets.specs.Members.{has}
use Rattle.listed_model.specs.Members.{holds}
use Rattle.listed_model.specs.Rows.{ClosedAt}
use Rattle.listed_model.specs.WideRows.{AreClosed}
use Rattle.listed_model.proofs.transitive.is_transitive.Given as goal

abbrev pub invariant-loop-place : goal.invariant-loop-place
invariant-loop-place l = record {
  len : length l.covered ≡ length l.fn.covered;
  room : length l.done ≡ length l.fn.done;
  last : AreClosed (map pair_row_of l.rows) l.fn.property.0 l.last;
  done : (y : ℕ) → has l.done y ≡ true → ClosedAt (map pair_row_of l.rows) l.fn.property.0 y;
  each : (k : ℕ) → holds (take l.place-index l.place-items) k ≡ true → (d : PairRow) → k < length l.items → ClosedAt (map pair_row_of l.rows) l.fn.property.0 (get_or l.items k d).source;
}
