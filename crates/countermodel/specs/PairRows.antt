-- The pairs of properties in the interpretation that a closure lists, as rows.
use Rattle.std.specs.Prelude.{◌≡◌, ◌↔◌, ◌<◌, ℕ, List, length, slice_get, Some}
use Rattle.std.specs.List.{All, AllPairs, Contains}
use Rattle.axioms.specs.Ontology.{Ontology}
use Rattle.listed_model.specs.Listing.{targets_of}
use Rattle.certificate.specs.Writability.{AreElements, IsPairBefore}
use Rattle.closure.specs.Closure.{Context}
use Rattle.exactness.specs.ListedInterpretation.{HasEdge}
use Rattle.normal_forms.specs.Forms.{Property}

-- a row for each property and each element that it leads anywhere from, in order: exactly the edges at or below the property
pub record ArePairRows (o : Ontology) (asked : List ℕ) (elements : List Context) (rows : List (ℕ × ℕ × List ℕ)) : Type 0 where
  pub within : All (λ p. (p.0 < length o.names.properties) × (p.1 < length elements) × AreElements (length elements) p.2) rows
  pub ascend : AllPairs IsPairBefore rows
  pub exact : (r m n : ℕ) (x y : Context) → slice_get elements m ≡ Some x → slice_get elements n ≡ Some y → Contains (targets_of rows r m) n ↔ HasEdge o asked x (Property r) y
