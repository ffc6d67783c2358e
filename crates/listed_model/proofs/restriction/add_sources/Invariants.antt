use Rattle.std.proofs.Common.{◌≡◌, ◌↔◌, ◌⊎◌, ℕ, take, true}
use Rattle.listed_model.specs.Members.{holds}
use Rattle.listed_model.specs.Rows.{IsSourceAmong}
use Rattle.listed_model.proofs.restriction.add_sources.Given as goal

abbrev pub invariant-loop-place : goal.invariant-loop-place
invariant-loop-place l = (x : ℕ) → (holds l.sources.items x ≡ true) ↔ ((holds l.fn.sources.items x ≡ true) ⊎ IsSourceAmong l.rows (take l.place-index l.places) x)
