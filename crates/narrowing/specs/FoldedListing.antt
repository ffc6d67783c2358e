-- Listings that are folded onto others.
use Rattle.std.specs.Prelude.{◌≡◌, ℕ, map}
use Rattle.axioms.specs.Ontology.{Ontology}
use Rattle.axioms.specs.WellFormedness.{IsOntology}
use Rattle.interpretation_spec.specs.Interpretation.{Interpretation, IsInterpretation}
use Rattle.interpretation_spec.specs.Folding.{Folds}
use Rattle.certificate.specs.Certificate.{Listed}
use Rattle.certificate.specs.Writability.{IsListedOf}
use Rattle.listed_model.specs.Listing.{IsListing}
use Rattle.narrowing.specs.Narrowed.{IsNarrowed, place_among}

-- a claim of the element that another comes to
abbrev pub folded_claim : (ℕ → ℕ) → ℕ × ℕ → ℕ × ℕ
folded_claim f claim = (claim.0, f claim.1)

-- what l lists is folded onto what m lists, and elements of individuals and of claims come to those of m
pub record FoldsListing (o : Ontology) (l m : Listed) (f : ℕ → ℕ) : Type 0 where
  -- the members of m name what is there, in the order of the text
  pub listed : IsListedOf o m
  pub folded : (i j : Interpretation) → IsListing o l i → IsListing o m j → IsInterpretation i → IsInterpretation j → Folds o i j f
  pub individuals : m.individuals ≡ map f l.individuals
  pub claims : m.claims ≡ map (folded_claim f) l.claims

-- m is a listing of the ontology, and what l lists is folded onto what m lists
abbrev pub IsFoldedListing : Ontology → Listed → Listed → Type 0
IsFoldedListing o l m = (f : ℕ → ℕ) × FoldsListing o l m f

-- what a listing lists is folded onto what the narrowed one lists
abbrev pub NarrowedIsFoldedListing : Type 0
NarrowedIsFoldedListing =
    (o : Ontology) → IsOntology o → (l m : Listed) → IsListedOf o l → (n : IsNarrowed l m) → FoldsListing o l m (place_among n.used)
