-- The interpretation of names that an interpretation by numbers stands for.
use Rattle.std.specs.Prelude.{◌≡◌, ℕ, suc, ◌<◌, ◌↔◌, List, [], ◌∷◌, Bool, true, if◌then◌else◌, ◌==◌, length, slice_index_or, IfSome, IsSomeAnd}
use Rattle.std.specs.List.{list_any}
use Rattle.std.specs.Str.{bytes_eq}
use Rattle.axioms.specs.Expression.{Iri, ClassExpression}
use Rattle.axioms.specs.Ontology.{Axiom, Names, Ontology, axiom_tree}
use Rattle.axioms.specs.View.{at_number}
use Rattle.interpretation_spec.specs.Interpretation.{Interpretation, IsIn, Satisfies}
use Rattle.interpretation_spec.specs.NumberedInterpretation.{NumberedInterpretation, members_of, targets_of}
use Rattle.number_sets.specs.Members.{has}

-- the number of a name, or how many names there are where it is none of them
abbrev pub number_of : List Iri → Iri → ℕ
number_of [] name = 0
number_of (x ∷ xs) name = if bytes_eq x name then 0 else suc (number_of xs name)

-- whether y is one of the targets of x by the property
abbrev pub is_target : NumberedInterpretation → ℕ → ℕ → ℕ → Bool
is_target i r x y = list_any (λ z. z == y) (targets_of i r x)

-- a path from x to y along the properties of these numbers
abbrev pub HasNumberedPath : NumberedInterpretation → List ℕ → ℕ → ℕ → Type 0
HasNumberedPath i [] x y = x ≡ y
HasNumberedPath i (r ∷ rs) x y = (z : ℕ) × (z < i.size) × (is_target i r x z ≡ true) × HasNumberedPath i rs z y

-- each path along the chain gives a pair of s
abbrev pub IsNumberedSubProperty : NumberedInterpretation → List ℕ → ℕ → Type 0
IsNumberedSubProperty i chain s = (x : ℕ) → x < i.size → (y : ℕ) → y < i.size → HasNumberedPath i chain x y → is_target i s x y ≡ true

-- the property joins an element of the row to y
abbrev pub IsTargetOfSome : NumberedInterpretation → ℕ → List Bool → ℕ → Type 0
IsTargetOfSome i r row y = (x : ℕ) × (x < i.size) × (has row x ≡ true) × (is_target i r x y ≡ true)

-- each name by its number; a name that the ontology does not have is empty, or element 0
unfoldable pub interpretation_of : Names → NumberedInterpretation → Interpretation
interpretation_of names i = record {
  size = i.size;
  class = λ c x. has (members_of i (number_of names.classes c)) x;
  property = λ r x y. is_target i (number_of names.properties r) x y;
  individual = λ a. slice_index_or i.individuals (number_of names.individuals a) 0;
}

-- what the axiom over numbers says is satisfied
abbrev pub SatisfiesNumbered : Ontology → NumberedInterpretation → Axiom → Type 0
SatisfiesNumbered o i axiom' = Satisfies (interpretation_of o.names i) (axiom_tree o axiom')

-- the row has the elements of the expression
pub record IsExtension (i : Interpretation) (c : ClassExpression) (row : List Bool) : Type 0 where
  pub long : length row ≡ i.size
  pub members : (x : ℕ) → x < i.size → (has row x ≡ true) ↔ IsIn i c x

-- the axiom of that number fails, and each before it holds
pub record IsFirstUnsatisfied (o : Ontology) (i : Interpretation) (number : ℕ) : Type 0 where
  pub fails : IsSomeAnd (at_number o.axioms number) (λ axiom'. Satisfies i (axiom_tree o axiom') → ⊥)
  pub before : (k : ℕ) → k < number → IfSome (at_number o.axioms k) (λ axiom'. Satisfies i (axiom_tree o axiom'))
