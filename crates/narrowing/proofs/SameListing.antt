-- What a listing lists is folded onto itself, and onto what the narrowed listing lists.
use Rattle.std.proofs.Common.{refl, sym, ap}
use Rattle.std.proofs.lemmas.List.{map-id}
use Rattle.axioms.specs.Ontology.{Ontology}
use Rattle.axioms.specs.WellFormedness.{IsOntology}
use Rattle.certificate.specs.Certificate.{Listed}
use Rattle.certificate.specs.Writability.{IsListedOf}
use Rattle.narrowing.specs.Narrowed.{IsNarrowed, place_among}
use Rattle.narrowing.specs.FoldedListing.{FoldsListing}
use Rattle.narrowing.proofs.Agreeing.{Agrees, agreeing_folds}
use Rattle.narrowing.proofs.Folding.{is_folded}
use Rattle.narrowing.proofs.Keeping.{is_listed}

agrees_with_itself : (l : Listed) → Agrees l l (λ x. x)
agrees_with_itself l = record {
  within = λ x lx. lx;
  onto = λ y ly. (y, ly, refl);
  classes = λ e x lx. (λ c. c, λ c. c);
  pairs = λ r x y lx ly. (λ c. c, λ c. c);
  individuals = sym (map-id l.individuals);
  apart = λ x y c d e. e;
}

pub same_is_folded : (o : Ontology) → IsOntology o → (l : Listed) → IsListedOf o l → FoldsListing o l l (λ x. x)
same_is_folded o w l fits = record {
  listed = fits;
  folded = agreeing_folds o w l l (λ x. x) fits (agrees_with_itself l);
  individuals = sym (map-id l.individuals);
  claims = sym (map-id l.claims);
}

pub narrowed_is_folded : (o : Ontology) → IsOntology o → (l m : Listed) → IsListedOf o l → (n : IsNarrowed l m) → FoldsListing o l m (place_among n.used)
narrowed_is_folded o w l m fits n = record {
  listed = is_listed o w l m fits n;
  folded = is_folded o w l m fits n;
  individuals = ap (λ k. k.individuals) n.narrowed;
  claims = ap (λ k. k.claims) n.narrowed;
}
