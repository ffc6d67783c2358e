-- What is kept while axioms are tested.
use Rattle.std.specs.Prelude.{◌≡◌, ◌<◌, ℕ, List, Some, length, slice_get}
use Rattle.axioms.specs.Ontology.{Ontology}
use Rattle.certificate.specs.View.{listed_of}
use Rattle.certificate.specs.declared.listed.ClassRow.{ClassRow}
use Rattle.certificate.specs.declared.listed.Listed as code
use Rattle.listed_model.specs.Extensions.{IsExtension}
use Rattle.listed_model.specs.Rows.{AreHolders}
use Rattle.listed_model.specs.declared.kept.Kept.{Kept}
use Rattle.listed_model.specs.declared.kept.Place.{Place}
use Rattle.listed_model.specs.declared.kept.Place.TheVariants as place

-- the elements stand at the place: they are those of a row, or a list that was made
abbrev pub StandAt : List ClassRow → List (List ℕ) → Place → List ℕ → Type 0
StandAt rows lists place.Nowhere xs = ⊥
StandAt rows lists (place.Row k) xs = (row : ClassRow) × (slice_get rows k ≡ Some row) × (row.elements.items ≡ xs)
StandAt rows lists (place.List k) xs = slice_get lists k ≡ Some xs

-- they stand at the place that is told of the expression
abbrev pub AreKeptOf : List ClassRow → Kept → ℕ → List ℕ → Type 0
AreKeptOf rows k e xs = (p : Place) × (slice_get k.places.items e ≡ Some p) × StandAt rows k.lists p xs

-- each element has the places of the rows that lead to it, each place of a list is one of the lists, and what stands at the place of an
-- expression are exactly its elements
pub record AreKept (o : Ontology) (l : code.Listed) (k : Kept) : Type 0 where
  pub holders : AreHolders l.pairs.items l.domain k.holders
  pub lists : (e n : ℕ) → slice_get k.places.items e ≡ Some (place.List n) → n < length k.lists
  pub elements : (e : ℕ) (xs : List ℕ) → AreKeptOf l.classes.items k e xs → IsExtension o (listed_of l) e xs
