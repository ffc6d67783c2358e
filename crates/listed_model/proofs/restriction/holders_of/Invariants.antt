use Rattle.std.proofs.Common.{ℕ, ◌<◌, ◌≡◌, length, map}
use Rattle.certificate.specs.View.{targets_in}
use Rattle.certificate.specs.declared.listed.PairRow.{PairRow}
use Rattle.number_sets.specs.Pieces.{list_at}
use Rattle.number_sets.specs.Transposition.{holders_below}
use Rattle.listed_model.proofs.restriction.holders_of.Given as goal

abbrev pub invariant-loop-place : goal.invariant-loop-place
invariant-loop-place l = record {
  long : length l.lists ≡ l.domain;
  each : (y : ℕ) → y < l.domain → list_at l.lists y ≡ holders_below l.place (map (λ (row : PairRow). targets_in row.targets) l.rows) y;
}
