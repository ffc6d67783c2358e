use Rattle.std.proofs.Common.{◌≡◌, ◌↔◌, ℕ, take, map, length, true}
use Rattle.certificate.specs.View.{pair_row_of}
use Rattle.number_sets.specs.Members.{has}
use Rattle.listed_model.specs.Listing.{targets_of}
use Rattle.listed_model.specs.Members.{holds}
use Rattle.listed_model.proofs.wide_steps.Steps.listed_successors.Given as goal

abbrev pub invariant-loop-source : goal.invariant-loop-source
invariant-loop-source l = record {
  len : length l.seen ≡ length l.fn.seen;
  seen : (y : ℕ) → has l.seen y ≡ true → holds l.found.items y ≡ true;
  members : (y : ℕ) → (holds l.found.items y ≡ true) ↔ ((x : ℕ) × (holds (take l.source-index l.sources) x ≡ true) × (holds (targets_of (map pair_row_of l.self.rows.now) l.fn.property.0 x) y ≡ true));
}
