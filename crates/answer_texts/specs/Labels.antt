-- What a graph has beside an element: the numbers of its classes and of its individuals.
use Rattle.std.specs.Prelude.{◌≡◌, ℕ, ◌-◌, List, [], ◌∷◌, ◌++◌, Bool, if◌then◌else◌, ◌==◌, length}
use Rattle.std.specs.List.{flat_map, range_with_len, enumerate_from}
use Rattle.axioms.specs.Ontology.{Names}
use Rattle.interpretation_spec.specs.NumberedInterpretation.{NumberedInterpretation, IsMadeFor, members_of}
use Rattle.number_sets.specs.Members.{has}
use Rattle.number_sets.specs.Pieces.{list_at}
use Rattle.answer_texts.specs.declared.labels.Labels.{Labels}

-- the numbers of those of the items that pass
abbrev pub numbers_of : {X : Type 0} → (X → Bool) → (X → ℕ) → List X → List ℕ
numbers_of passes number xs = flat_map (λ x. if passes x then number x ∷ [] else []) xs

-- the classes but owl:Thing that have the element
abbrev pub classes_at : NumberedInterpretation → ℕ → List ℕ
classes_at i x = numbers_of (λ c. has (members_of i c) x) (λ c. c) (range_with_len 1 (length i.classes - 1))

-- the individuals whose element it is
abbrev pub individuals_at : List ℕ → ℕ → List ℕ
individuals_at elements x = numbers_of (λ (a : ℕ × ℕ). a.1 == x) (λ (a : ℕ × ℕ). a.0) (enumerate_from 0 elements)

-- these are listed for each element
pub record AreLabels (i : NumberedInterpretation) (labels : Labels) : Type 0 where
  pub classes : (x : ℕ) → list_at labels.classes x ≡ classes_at i x
  pub individuals : (x : ℕ) → list_at labels.individuals x ≡ individuals_at i.individuals x

-- what is told of each interpretation that was made for the names and has these labels was added
abbrev pub AddsTold : Names → Labels → (NumberedInterpretation → List ℕ) → (old new : List ℕ) → Type 0
AddsTold names labels told old new = (i : NumberedInterpretation) → IsMadeFor names i → AreLabels i labels → new ≡ old ++ told i
