-- Interpretations that a list of members lists.
use Rattle.std.specs.Prelude.{◌≡◌, ℕ, ◌<◌, ◌↔◌, ◌≤◌, List, [], ◌∷◌, true, length, slice_get, slice_index_or, Some, if◌then◌else◌, ◌==◌, ◌&&◌}
use Rattle.std.specs.List.{Contains}
use Rattle.axioms.specs.Ontology.{Ontology, IsClassAt, name_at, individual_name}
use Rattle.interpretation_spec.specs.Interpretation.{Interpretation}
use Rattle.certificate.specs.Certificate.{Listed}

-- the elements that are listed for the expression
abbrev pub elements_of : List (ℕ × List ℕ) → ℕ → List ℕ
elements_of [] e = []
elements_of (c ∷ cs) e = if c.0 == e then c.1 else elements_of cs e

-- the targets that are listed for the property and the source
abbrev pub targets_of : List (ℕ × ℕ × List ℕ) → ℕ → ℕ → List ℕ
targets_of [] r x = []
targets_of (p ∷ ps) r x = if (p.0 == r) && (p.1 == x) then p.2 else targets_of ps r x

-- the element that is listed for the individual
abbrev pub element_of : List ℕ → ℕ → ℕ
element_of individuals a = slice_index_or individuals a 0

-- the two individuals have one element
abbrev pub HaveOneElement : List ℕ → ℕ → ℕ → Type 0
HaveOneElement individuals a b = element_of individuals a ≡ element_of individuals b

-- they have two
abbrev pub HaveTwoElements : List ℕ → ℕ → ℕ → Type 0
HaveTwoElements individuals a b = element_of individuals a ≡ element_of individuals b → ⊥

-- what the members say of names: owl:Thing is all, and what is not listed is empty
pub record IsListing (o : Ontology) (l : Listed) (i : Interpretation) : Type 0 where
  pub size : i.size ≡ l.domain
  pub classes : (c e x : ℕ) → IsClassAt o c e → 2 ≤ e → x < i.size → (i.class (name_at o.names.classes c) x ≡ true) ↔ Contains (elements_of l.classes e) x
  pub pairs : (r x y : ℕ) → r < length o.names.properties → x < i.size → y < i.size → (i.property (name_at o.names.properties r) x y ≡ true) ↔ Contains (targets_of l.pairs r x) y
  pub individuals : (a x : ℕ) → slice_get l.individuals a ≡ Some x → i.individual (individual_name o a) ≡ x
