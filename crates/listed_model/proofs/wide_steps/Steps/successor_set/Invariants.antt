use Rattle.std.proofs.Common.{◌≡◌, ◌↔◌, ℕ, take, map, length, true}
use Rattle.certificate.specs.View.{pair_row_of}
use Rattle.number_sets.specs.Members.{has}
use Rattle.listed_model.specs.Listing.{targets_of}
use Rattle.listed_model.specs.Members.{holds}
use Rattle.listed_model.proofs.wide_steps.Steps.successor_set.Given as goal

abbrev pub invariant-loop-source : goal.invariant-loop-source
invariant-loop-source l = record {
  len : length l.all ≡ l.fn.bound;
  members : (y : ℕ) → (has l.all y ≡ true) ↔ ((x : ℕ) × (holds (take l.source-index l.sources) x ≡ true) × (holds (targets_of (map pair_row_of l.self.rows.now) l.fn.property.0 x) y ≡ true));
}
