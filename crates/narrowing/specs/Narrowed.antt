-- A listed interpretation without the elements that stand in no line, but for one.
use Rattle.std.specs.Prelude.{◌≡◌, ℕ, suc, ◌+◌, ◌≤◌, ◌↔◌, List, [], ◌∷◌, length, map, nat_lt, if◌then◌else◌, ◌==◌}
use Rattle.std.specs.List.{Contains}
use Rattle.axioms.specs.Ontology.{Ontology}
use Rattle.axioms.specs.WellFormedness.{IsOntology}
use Rattle.interpretation_spec.specs.Interpretation.{Interpretation, IsInterpretation}
use Rattle.interpretation_spec.specs.Folding.{Folds}
use Rattle.certificate.specs.Certificate.{Listed}
use Rattle.certificate.specs.Writability.{IsListedOf, Ascends}
use Rattle.listed_model.specs.Listing.{IsListing}

-- the element stands in a line of the listing
pub data StandsIn (l : Listed) (x : ℕ) : Type 0 where
  in_class : (row : ℕ × List ℕ) → Contains l.classes row → Contains row.1 x → StandsIn l x
  as_source : (row : ℕ × ℕ × List ℕ) → Contains l.pairs row → row.1 ≡ x → StandsIn l x
  as_target : (row : ℕ × ℕ × List ℕ) → Contains l.pairs row → Contains row.2 x → StandsIn l x
  of_individual : Contains l.individuals x → StandsIn l x
  of_claim : (claim : ℕ × ℕ) → Contains l.claims claim → claim.1 ≡ x → StandsIn l x

-- the place of the number among these, or how many there are where it is none of them
abbrev pub place_among : List ℕ → ℕ → ℕ
place_among [] x = 0
place_among (y ∷ ys) x = if y == x then 0 else suc (place_among ys x)

-- one element more than these, where there are others
abbrev pub narrowed_domain : List ℕ → ℕ → ℕ
narrowed_domain used domain = if nat_lt (length used) domain then length used + 1 else length used

-- each element by its place among these
abbrev pub narrowed_class : List ℕ → ℕ × List ℕ → ℕ × List ℕ
narrowed_class used row = (row.0, map (place_among used) row.1)

abbrev pub narrowed_pairs : List ℕ → ℕ × ℕ × List ℕ → ℕ × ℕ × List ℕ
narrowed_pairs used row = (row.0, place_among used row.1, map (place_among used) row.2)

abbrev pub narrowed_claim : List ℕ → ℕ × ℕ → ℕ × ℕ
narrowed_claim used claim = (claim.0, place_among used claim.1)

abbrev pub narrowed_to : List ℕ → Listed → Listed
narrowed_to used l = record {
  domain = narrowed_domain used l.domain;
  classes = map (narrowed_class used) l.classes;
  pairs = map (narrowed_pairs used) l.pairs;
  individuals = map (place_among used) l.individuals;
  claims = map (narrowed_claim used) l.claims;
}

-- m has the elements that stand in a line of l, renumbered in order, and one more where l has others
pub record IsNarrowed (l m : Listed) : Type 0 where
  pub used : List ℕ
  pub ascend : Ascends used
  pub exact : (x : ℕ) → Contains used x ↔ StandsIn l x
  pub narrowed : m ≡ narrowed_to used l

-- ---- what stays

-- what the one lists is folded onto what the other lists
abbrev pub NarrowedIsFolded : Type 0
NarrowedIsFolded =
    (o : Ontology) → IsOntology o → (l m : Listed) → IsListedOf o l → (n : IsNarrowed l m) →
    (i j : Interpretation) → IsListing o l i → IsListing o m j → IsInterpretation i → IsInterpretation j →
    Folds o i j (place_among n.used)

-- the narrowed members name what is there, in the order of the text
abbrev pub NarrowedIsListed : Type 0
NarrowedIsListed = (o : Ontology) → IsOntology o → (l m : Listed) → IsListedOf o l → IsNarrowed l m → IsListedOf o m

-- there are no more elements than before, and one more at most than those that stand in a line
abbrev pub NarrowedIsNarrow : Type 0
NarrowedIsNarrow = (o : Ontology) → IsOntology o → (l m : Listed) → IsListedOf o l → (n : IsNarrowed l m) → (m.domain ≤ l.domain) × (m.domain ≤ length n.used + 1)
