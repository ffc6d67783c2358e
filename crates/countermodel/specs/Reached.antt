-- The part of the listed interpretation that edges lead to.
use Rattle.std.specs.Prelude.{◌≡◌, ℕ, ◌<◌, List, length, slice_get, Some}
use Rattle.axioms.specs.Ontology.{Ontology}
use Rattle.certificate.specs.Certificate.{Listed}
use Rattle.closure.specs.Closure.{Context, Individual}
use Rattle.closure.specs.Groups.{least_same}
use Rattle.exactness.specs.ListedInterpretation.{HasEdge, IsSatisfiable, Leads}
use Rattle.normal_forms.specs.Forms.{Property}
use Rattle.countermodel.specs.ContextLists.{AreAll}
use Rattle.countermodel.specs.Elements.{leader}
use Rattle.countermodel.specs.MemberRows.{AreClassRows, AreIndividualElements}
use Rattle.countermodel.specs.PairRows.{ArePairRows}

-- the context itself, the least of each group of individuals, and each with an element that an edge leads to from one that is reached
pub data IsReachedFrom (o : Ontology) (asked : List ℕ) (from : Context) : Context → Type 0 where
  itself : IsReachedFrom o asked from from
  individual : (a : ℕ) → a < length o.names.individuals → IsReachedFrom o asked from (Individual (least_same o a))
  onward : {y : Context} (r : ℕ) (x : Context) → IsReachedFrom o asked from x → HasEdge o asked x (Property r) y → IsSatisfiable o asked y → Leads o asked y → IsReachedFrom o asked from y

-- the members are those of the contexts that are reached from the one that has x's element, which has the number new there
pub record IsListedPart (o : Ontology) (asked : List ℕ) (x : Context) (listed : Listed) (new : ℕ) : Type 0 where
  pub elements : List Context
  pub reached : AreAll (IsReachedFrom o asked (leader o x)) elements
  pub own : slice_get elements new ≡ Some (leader o x)
  pub domain : listed.domain ≡ length elements
  pub classes : AreClassRows o asked elements listed.classes
  pub pairs : ArePairRows o asked elements listed.pairs
  pub individuals : AreIndividualElements o elements listed.individuals
