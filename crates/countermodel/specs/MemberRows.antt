-- The members of classes in the interpretation that a closure lists, its individuals and its claims.
use Rattle.std.specs.Prelude.{◌≡◌, ◌↔◌, ◌<◌, ◌≤◌, ℕ, List, length, map, slice_get, Some}
use Rattle.std.specs.List.{All, Contains}
use Rattle.axioms.specs.Ontology.{Ontology, IsClassAt}
use Rattle.listed_model.specs.Listing.{elements_of}
use Rattle.certificate.specs.Writability.{AreElements, Ascends, IsNamedClass}
use Rattle.closure.specs.Closure.{Context, Expression, Individual, In, IsFact}
use Rattle.closure.specs.Groups.{least_same}
use Rattle.normal_forms.specs.Forms.{Whole}

-- a row for each class but owl:Thing and owl:Nothing that has elements, in order: exactly the contexts that have it
pub record AreClassRows (o : Ontology) (asked : List ℕ) (elements : List Context) (rows : List (ℕ × List ℕ)) : Type 0 where
  pub within : All (λ c. IsNamedClass o c.0 × (2 ≤ c.0) × AreElements (length elements) c.1) rows
  pub ascend : Ascends (map (λ c. c.0) rows)
  pub exact : (c e m : ℕ) (x : Context) → IsClassAt o c e → 2 ≤ e → slice_get elements m ≡ Some x → Contains (elements_of rows e) m ↔ IsFact o asked (In (Whole e) x)

-- the least of each group of individuals is an element
abbrev pub HaveIndividuals : Ontology → List Context → Type 0
HaveIndividuals o elements = (a : ℕ) → a < length o.names.individuals → (m : ℕ) × (slice_get elements m ≡ Some (Individual (least_same o a)))

-- the element of each individual: that of the least of its group
pub record AreIndividualElements (o : Ontology) (elements : List Context) (numbers : List ℕ) : Type 0 where
  pub long : length numbers ≡ length o.names.individuals
  pub each : (a m : ℕ) → slice_get numbers a ≡ Some m → slice_get elements m ≡ Some (Individual (least_same o a))

-- each named class that has an element of its own is claimed there, in order
pub record AreOwnClaims (o : Ontology) (elements : List Context) (claims : List (ℕ × ℕ)) : Type 0 where
  pub ascend : Ascends (map (λ c. c.0) claims)
  pub each : (e m : ℕ) → Contains claims (e, m) → IsNamedClass o e × (slice_get elements m ≡ Some (Expression e))
  pub all : (c e m : ℕ) → IsClassAt o c e → slice_get elements m ≡ Some (Expression e) → Contains claims (e, m)
