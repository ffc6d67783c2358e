-- The elements of expressions in a listed interpretation.
use Rattle.std.specs.Prelude.{◌≡◌, ℕ, ◌<◌, ◌↔◌, List, true}
use Rattle.std.specs.List.Sorted.{IsStrictlyIncreasing}
use Rattle.axioms.specs.Ontology.{Ontology, expression}
use Rattle.certificate.specs.Certificate.{Listed}
use Rattle.interpretation_spec.specs.Interpretation.{IsIn}
use Rattle.listed_model.specs.Interpretations.{listed_interpretation}
use Rattle.listed_model.specs.Members.{holds}

-- x is an element of the expression of that number
abbrev pub IsElement : Ontology → Listed → ℕ → ℕ → Type 0
IsElement o l e x = (x < l.domain) × IsIn (listed_interpretation o l) (expression o e) x

-- the list has exactly the elements of the expression of that number, ascending
pub record IsExtension (o : Ontology) (l : Listed) (e : ℕ) (xs : List ℕ) : Type 0 where
  pub ascending : IsStrictlyIncreasing xs
  pub members : (x : ℕ) → (holds xs x ≡ true) ↔ IsElement o l e x

-- the elements ascend, and are below the domain
pub record AreAscending (domain : ℕ) (xs : List ℕ) : Type 0 where
  pub ascending : IsStrictlyIncreasing xs
  pub within : (x : ℕ) → holds xs x ≡ true → x < domain

-- the list has exactly those of the elements that are of the expression, ascending
pub record AreThose (o : Ontology) (l : Listed) (e : ℕ) (xs those : List ℕ) : Type 0 where
  pub ascending : IsStrictlyIncreasing those
  pub members : (x : ℕ) → (holds those x ≡ true) ↔ ((holds xs x ≡ true) × IsElement o l e x)
