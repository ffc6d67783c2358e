-- The superclasses of each class.
use Rattle.std.specs.Prelude.{◌≡◌, ℕ, ◌<◌, List, [], ◌∷◌, Bool, true, false, ◌&&◌, ◌==◌, nat_eq, nat_lt, length, map, if◌then◌else◌}
use Rattle.std.specs.List.{list_any}
use Rattle.number_sets.specs.Pieces.{list_at}
use Rattle.taxonomy.specs.Texts.{numbers_below}
use Rattle.taxonomy.specs.Relation.{is_listed}

-- the number stands in the list
abbrev pub is_among : List ℕ → ℕ → Bool
is_among xs k = list_any (λ x. x == k) xs

-- no number stands twice in the list
abbrev pub AreOnce : List ℕ → Type 0
AreOnce [] = Unit {0}
AreOnce (x ∷ xs) = (is_among xs x ≡ false) × AreOnce xs

-- the numbers below n of a list, each once
pub record IsSetOf (n : ℕ) (list found : List ℕ) : Type 0 where
  pub once : AreOnce found
  pub members : (k : ℕ) → is_among found k ≡ (is_among list k && nat_lt k n)

-- the lists as rows of as many numbers
abbrev pub rows_of : List (List ℕ) → List (List Bool)
rows_of lists = map (λ list. map (is_among list) (numbers_below (length lists))) lists

-- the lists, where a class that is kept apart has all n numbers
abbrev pub filled : ℕ → List Bool → List (List ℕ) → List (List ℕ)
filled n [] lists = []
filled n (b ∷ apart) [] = []
filled n (b ∷ apart) (list ∷ lists) = (if b then numbers_below n else list) ∷ filled n apart lists

-- lists, those that are kept apart as a set, all their numbers, and how many numbers each list has
pub record AreWhole (lists : List (List ℕ)) (apart : List Bool) (all sizes : List ℕ) : Type 0 where
  pub long : length apart ≡ length lists
  pub each : all ≡ numbers_below (length lists)
  pub sized : sizes ≡ map length (filled (length lists) apart lists)

-- lists of numbers below the number of lists, in none of which a number stands twice
pub record AreSets (lists : List (List ℕ)) : Type 0 where
  pub once : (c : ℕ) → AreOnce (list_at lists c)
  pub within : (c d : ℕ) → is_listed lists c d ≡ true → d < length lists

-- the superclasses of each class: each is above itself, and what is above a superclass is above the class
pub record AreSuperclasses (lists : List (List ℕ)) : Type 0 where
  pub sets : AreSets lists
  pub reflexive : (c : ℕ) → c < length lists → is_listed lists c c ≡ true
  pub transitive : (c d e : ℕ) → is_listed lists c d ≡ true → is_listed lists d e ≡ true → is_listed lists c e ≡ true

-- h is one of the superclasses of g, and has fewer
abbrev pub is_larger : List (List ℕ) → ℕ → ℕ → Bool
is_larger lists g h = is_listed lists g h && nat_lt (length (list_at lists h)) (length (list_at lists g))

-- h is one of the superclasses of g, and has as many
abbrev pub is_as_large : List (List ℕ) → ℕ → ℕ → Bool
is_as_large lists g h = is_listed lists g h && nat_eq (length (list_at lists h)) (length (list_at lists g))
