-- The classes of a group, and those that stand for groups, are classes that are there, each once.
use Rattle.std.proofs.Common.{◌≡◌, ℕ, ◌<◌, List, [], length, Bool, All}
use Rattle.std.specs.List.{filter}
use Rattle.std.proofs.lemmas.List.Elements.{All-filter}
use Rattle.axioms.specs.WellFormedness.{AreDistinct}
use Rattle.taxonomy.specs.Texts.{group, groups, in_byte_order, is_same}
use Rattle.taxonomy.proofs.Agreement.{all_firsts, all_in_byte_order}
use Rattle.taxonomy.proofs.Once.{once_filter}
use Rattle.inferred_text.proofs.Orders.{once_distinct, once_in_order}

pub group_distinct : (r : ℕ → ℕ → Bool) (names : List (List ℕ)) (c : ℕ) (members : List ℕ) → members ≡ group r (in_byte_order names) c → AreDistinct members
group_distinct r names c members e =
    rw e (once_distinct (group r (in_byte_order names) c) (once_filter (is_same r c) (in_byte_order names) (once_in_order names)))

-- ---- those that are there

pub groups_within : (r : ℕ → ℕ → Bool) (names : List (List ℕ)) → All (λ c. c < length names) (groups r (in_byte_order names))
groups_within r names = all_firsts (λ c. c < length names) r [] (in_byte_order names) (all_in_byte_order names)

pub group_within : (r : ℕ → ℕ → Bool) (names : List (List ℕ)) (c : ℕ) (members : List ℕ) → members ≡ group r (in_byte_order names) c → All (λ d. d < length names) members
group_within r names c members e = rw e (All-filter (is_same r c) (λ d. d < length names) (in_byte_order names) (all_in_byte_order names))

pub chosen_within : (p : ℕ → Bool) (r : ℕ → ℕ → Bool) (names : List (List ℕ)) (chosen : List ℕ) → chosen ≡ filter p (groups r (in_byte_order names)) → All (λ d. d < length names) chosen
chosen_within p r names chosen e = rw e (All-filter p (λ d. d < length names) (groups r (in_byte_order names)) (groups_within r names))
