-- An interpretation by its elements: of each the classes that it is in, and its pairs.
use Rattle.std.specs.Prelude.{◌≡◌, ◌⊎◌, ◌↔◌, ℕ, ◌<◌, ◌≤◌, List, true, length, slice_get, Some}
use Rattle.std.specs.List.{Contains}
use Rattle.axioms.specs.Ontology.{Ontology, name_at, property_name, individual_name}
use Rattle.axioms.specs.declared.ids.ClassId.{ClassId}
use Rattle.axioms.specs.declared.ids.PropId.{PropId}
use Rattle.generated_part.specs.declared.by_element.ByElement.{ByElement}
use Rattle.interpretation_spec.specs.Interpretation.{Interpretation}
use Rattle.interpretation_spec.specs.NumberedInterpretation.{NumberedInterpretation, members_of, targets_of}
use Rattle.number_sets.specs.Members.{has}
use Rattle.number_sets.specs.Pieces.{list_at}

abbrev pub class_id : ℕ → ClassId
class_id c = record { 0 = c }

abbrev pub prop_id : ℕ → PropId
prop_id r = record { 0 = r }

-- the classes of the element among the first n, but for owl:Thing and owl:Nothing
abbrev pub AreClassesAt : NumberedInterpretation → ℕ → ℕ → List ClassId → Type 0
AreClassesAt i n x classes = (c : ClassId) → Contains classes c ↔ ((2 ≤ c.0) × (c.0 < n) × (has (members_of i c.0) x ≡ true))

-- the pairs of the element by the first n properties
abbrev pub ArePairsAt : NumberedInterpretation → ℕ → ℕ → List (PropId × ℕ) → Type 0
ArePairsAt i n x pairs = (r : PropId) (y : ℕ) → Contains pairs (r, y) ↔ ((r.0 < n) × Contains (targets_of i r.0 x) y)

-- the pairs of the property to these targets were added
abbrev pub AddsTargets : List (PropId × ℕ) → PropId → List ℕ → List (PropId × ℕ) → Type 0
AddsTargets old property targets new = (r : PropId) (y : ℕ) → Contains new (r, y) ↔ (Contains old (r, y) ⊎ ((r ≡ property) × Contains targets y))

-- what is said of each element, and of each individual
pub record IsByElement (o : Ontology) (i : Interpretation) (rows : ByElement) : Type 0 where
  pub classes_each : length rows.classes ≡ i.size
  pub pairs_each : length rows.pairs ≡ i.size
  pub individuals_each : length rows.individuals.items ≡ length o.names.individuals
  pub classes : (x : ℕ) (c : ClassId) → x < i.size → Contains (list_at rows.classes x) c ↔ ((2 ≤ c.0) × (c.0 < length o.names.classes) × (i.class (name_at o.names.classes c.0) x ≡ true))
  pub pairs : (x y : ℕ) (r : PropId) → x < i.size → Contains (list_at rows.pairs x) (r, y) ↔ ((r.0 < length o.names.properties) × (y < i.size) × (i.property (property_name o r.0) x y ≡ true))
  pub individuals : (a x : ℕ) → slice_get rows.individuals.items a ≡ Some x → i.individual (individual_name o a) ≡ x
