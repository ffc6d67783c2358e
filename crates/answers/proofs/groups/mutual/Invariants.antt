use Rattle.std.proofs.Common.{◌↔◌, ◌≡◌, ℕ, Contains, take, true}
use Rattle.taxonomy.specs.Relation.{is_listed}
use Rattle.number_sets.specs.Pieces.{list_at}
use Rattle.answers.proofs.groups.mutual.Given as goal

abbrev pub invariant-loop-other : goal.invariant-loop-other
invariant-loop-other l = (d : ℕ) → Contains l.found.items d ↔ (Contains (take l.other-index (list_at l.lists l.class)) d × (is_listed l.lists d l.class ≡ true))
