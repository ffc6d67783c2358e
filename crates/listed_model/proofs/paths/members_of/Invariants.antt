use Rattle.std.proofs.Common.{◌≡◌, ◌↔◌, ◌<◌, ℕ, true}
use Rattle.number_sets.specs.Members.{has}
use Rattle.listed_model.specs.Members.{holds}
use Rattle.listed_model.proofs.paths.members_of.Given as goal

abbrev pub invariant-loop-number : goal.invariant-loop-number
invariant-loop-number l = (y : ℕ) → (holds l.members.items y ≡ true) ↔ ((y < l.number) × (has l.set y ≡ true))
