-- A finite interpretation by the numbers of an ontology's names.
use Rattle.std.specs.Prelude.{◌≡◌, ℕ, ◌-◌, ◌<◌, List, [], ◌∷◌, Bool, true, false, if◌then◌else◌, nat_lt, ◌==◌, length, slice_set, slice_index_or, replicate, All}
use Rattle.std.specs.List.Sorted.{IsStrictlyIncreasing}
use Rattle.axioms.specs.Ontology.{Names}
use Rattle.number_sets.specs.Members.{has}

-- for each class its elements, for each property and each element its targets in ascending order, for each individual its element
pub record NumberedInterpretation : Type 0 where
  pub size : ℕ
  pub classes : List (List Bool)
  pub pairs : List (List (List ℕ))
  pub individuals : List ℕ

-- the elements of a class
abbrev pub members_of : NumberedInterpretation → ℕ → List Bool
members_of i c = slice_index_or i.classes c []

-- the targets of an element by a property
abbrev pub targets_of : NumberedInterpretation → ℕ → ℕ → List ℕ
targets_of i r x = slice_index_or (slice_index_or i.pairs r []) x []

-- the two properties have the same targets at each element
abbrev pub HaveSameTargets : NumberedInterpretation → ℕ → ℕ → Type 0
HaveSameTargets i r s = (x : ℕ) → x < i.size → targets_of i r x ≡ targets_of i s x

-- the element of an individual
abbrev pub element_of : NumberedInterpretation → ℕ → ℕ
element_of i a = slice_index_or i.individuals a 0

-- the two individuals have one element
abbrev pub HaveOneElement : NumberedInterpretation → ℕ → ℕ → Type 0
HaveOneElement i a b = element_of i a ≡ element_of i b

-- they have two
abbrev pub HaveTwoElements : NumberedInterpretation → ℕ → ℕ → Type 0
HaveTwoElements i a b = element_of i a ≡ element_of i b → ⊥

-- ascending numbers below a bound, none twice
pub record AreElements (size : ℕ) (xs : List ℕ) : Type 0 where
  pub ascending : IsStrictlyIncreasing xs
  pub within : All (λ x. x < size) xs

-- the domain is not empty, owl:Thing is all of it and owl:Nothing is empty, and what is said is of elements
pub record IsNumberedInterpretation (i : NumberedInterpretation) : Type 0 where
  pub inhabited : 0 < i.size
  pub classes : (c : ℕ) → c < length i.classes → length (members_of i c) ≡ i.size
  pub thing : (x : ℕ) → x < i.size → has (members_of i 0) x ≡ true
  pub nothing : (x : ℕ) → has (members_of i 1) x ≡ false
  pub sources : (r : ℕ) → r < length i.pairs → length (slice_index_or i.pairs r []) ≡ i.size
  pub targets : (r x : ℕ) → AreElements i.size (targets_of i r x)
  pub individuals : All (λ x. x < i.size) i.individuals

-- it says something of each name of an ontology, and of no others
pub record IsMadeFor (names : Names) (i : NumberedInterpretation) : Type 0 where
  pub classes : length i.classes ≡ length names.classes
  pub properties : length i.pairs ≡ length names.properties
  pub individuals : length i.individuals ≡ length names.individuals

-- ---- how one is made

-- all classes but owl:Thing and all properties are empty, and each individual is element 0
abbrev pub empty_interpretation : Names → ℕ → NumberedInterpretation
empty_interpretation names size = record {
  size = size;
  classes = replicate size true ∷ replicate (length names.classes - 1) (replicate size false);
  pairs = replicate (length names.properties) (replicate size []);
  individuals = replicate (length names.individuals) 0;
}

-- ascending numbers with one more
abbrev pub with_number : ℕ → List ℕ → List ℕ
with_number n [] = n ∷ []
with_number n (x ∷ xs) = if nat_lt n x then n ∷ x ∷ xs else (if n == x then x ∷ xs else x ∷ with_number n xs)

-- x is in the class
abbrev pub with_member : NumberedInterpretation → ℕ → ℕ → NumberedInterpretation
with_member i c x = record i { classes = slice_set i.classes c (slice_set (members_of i c) x true) }

-- the property joins x to y
abbrev pub with_pair : NumberedInterpretation → ℕ → ℕ → ℕ → NumberedInterpretation
with_pair i r x y = record i { pairs = slice_set i.pairs r (slice_set (slice_index_or i.pairs r []) x (with_number y (targets_of i r x))) }

-- the individual is x
abbrev pub with_individual : NumberedInterpretation → ℕ → ℕ → NumberedInterpretation
with_individual i a x = record i { individuals = slice_set i.individuals a x }
