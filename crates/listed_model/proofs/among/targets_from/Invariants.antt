use Rattle.std.proofs.Common.{◌≡◌, ◌↔◌, ℕ, map, take, true}
use Rattle.certificate.specs.View.{pair_row_of}
use Rattle.listed_model.specs.Listing.{targets_of}
use Rattle.listed_model.specs.Members.{holds}
use Rattle.listed_model.proofs.among.targets_from.Given as goal

abbrev pub invariant-loop-source : goal.invariant-loop-source
invariant-loop-source l = (y : ℕ) → (holds l.targets.items y ≡ true)
    ↔ ((x : ℕ) × (holds (take l.source-index l.sources) x ≡ true) × (holds (targets_of (map pair_row_of l.rows) l.property.0 x) y ≡ true))
