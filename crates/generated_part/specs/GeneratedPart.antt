-- The part of an interpretation that can be reached from an element and from the individuals.
use Rattle.std.specs.Prelude.{◌≡◌, ℕ, ◌<◌, ◌↔◌, List, length, slice_get, Some}
use Rattle.std.specs.List.{Contains}
use Rattle.std.specs.List.Sorted.{IsStrictlyIncreasing}
use Rattle.axioms.specs.Ontology.{Ontology, name_at, property_name, individual_name}
use Rattle.interpretation_spec.specs.Interpretation.{Interpretation, HasPair}

-- the element from is reached, the elements of individuals are, and so is what a pair leads to from an element that is
pub data IsReached (o : Ontology) (i : Interpretation) (from : ℕ) : ℕ → Type 0 where
  start : from < i.size → IsReached o i from from
  individual : {x : ℕ} (a : ℕ) → a < length o.names.individuals → i.individual (individual_name o a) ≡ x → IsReached o i from x
  step : {y : ℕ} (r x : ℕ) → IsReached o i from x → r < length o.names.properties → y < i.size → HasPair i (property_name o r) x y → IsReached o i from y

-- the part has exactly the elements that are reached, each by its place among them in ascending order, and says of them what the
-- whole says; new is the place of from
pub record IsGenerated (o : Ontology) (i : Interpretation) (from : ℕ) (part : Interpretation) (new : ℕ) : Type 0 where
  pub elements : List ℕ
  pub ascend : IsStrictlyIncreasing elements
  pub reached : (x : ℕ) → Contains elements x ↔ IsReached o i from x
  pub from_at : slice_get elements new ≡ Some from
  pub size : part.size ≡ length elements
  pub classes : (c m x : ℕ) → c < length o.names.classes → slice_get elements m ≡ Some x → part.class (name_at o.names.classes c) m ≡ i.class (name_at o.names.classes c) x
  pub pairs : (r m n x y : ℕ) → r < length o.names.properties → slice_get elements m ≡ Some x → slice_get elements n ≡ Some y → part.property (property_name o r) m n ≡ i.property (property_name o r) x y
  pub individuals : (a : ℕ) → a < length o.names.individuals → slice_get elements (part.individual (individual_name o a)) ≡ Some (i.individual (individual_name o a))
