use Rattle.std.proofs.Common.{◌≡◌, ◌↔◌, ℕ, map, take, true}
use Rattle.std.specs.List.Sorted.{IsStrictlyIncreasing}
use Rattle.certificate.specs.View.{pair_row_of}
use Rattle.listed_model.specs.Members.{holds}
use Rattle.listed_model.specs.Rows.{Joined}
use Rattle.listed_model.proofs.among.joined_among.Given as goal

abbrev pub invariant-loop-source : goal.invariant-loop-source
invariant-loop-source l = record {
  ascending : IsStrictlyIncreasing l.joined.items;
  members : (x : ℕ) → (holds l.joined.items x ≡ true) ↔ ((holds (take l.source-index l.sources) x ≡ true) × Joined (map pair_row_of l.rows) l.property.0 l.fillers x);
}
