use Rattle.std.proofs.Common.{◌≡◌, ℕ, ◌<◌, get_or, map}
use Rattle.certificate.specs.View.{pair_row_of}
use Rattle.listed_model.specs.Listing.{targets_of}
use Rattle.listed_model.specs.Members.{holds}
use Rattle.listed_model.proofs.property_axioms.are_same_properties.Given as goal

abbrev pub invariant-loop-property : goal.invariant-loop-property
invariant-loop-property l = (k : ℕ) → k < l.property-index → (x y : ℕ) → holds (targets_of (map pair_row_of l.rows) (get_or l.properties 0 record { 0 = 0 }).0 x) y ≡ holds (targets_of (map pair_row_of l.rows) (get_or l.properties k record { 0 = 0 }).0 x) y
