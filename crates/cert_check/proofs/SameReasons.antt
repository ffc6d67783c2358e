-- The same speaks against a certificate with a listing as with one onto which it is folded, as the narrowed one is.
use Rattle.std.proofs.Common.{◌≡◌, ◌↔◌, ℕ, ◌<◌, List, map, get_or, slice_get, Option, Some, None, Contains, sym, ap, subst}
use Rattle.std.proofs.lemmas.List.Elements.{All-contains, All-map}
use Rattle.std.proofs.lemmas.Option.{slice_get_within}
use Rattle.lemmas.proofs.Mapped.{slice_get_map, slice_get_map_from, Contains-map, All-from_map}
use Rattle.lemmas.proofs.Members.{Contains-from_slice_get, slice_get-from_Contains}
use Rattle.axioms.specs.Ontology.{Ontology, IsClassAt, axiom_tree, axiom_trees}
use Rattle.axioms.specs.WellFormedness.{IsOntology}
use Rattle.interpretation_spec.specs.Folding.{Folds}
use Rattle.interpretation_spec.specs.Interpretation.{Interpretation, IsInterpretation, IsModel, Satisfies}
use Rattle.interpretation_spec.proofs.Folding.{stays, axiom_to, axiom_from, first_stays}
use Rattle.certificate.specs.Certificate.{Subject, Expression, Individual, Line, Listed}
use Rattle.certificate.specs.Writability.{IsListedOf, IsNamedClass}
use Rattle.listed_model.specs.Listing.{IsListing}
use Rattle.listed_model.specs.Interpretations.{listed_interpretation}
use Rattle.listed_model.proofs.Interpreted.{listing_is, interpretation_is}
use Rattle.narrowing.specs.FoldedListing.{FoldsListing, IsFoldedListing, folded_claim}
use Rattle.narrowing.specs.Narrowed.{IsNarrowed, place_among, narrowed_claim}
use Rattle.narrowing.proofs.SameListing.{narrowed_is_folded}
use Rattle.cert_check.specs.declared.verdict.Reason.{Reason}
use Rattle.cert_check.specs.declared.verdict.Reason.TheVariants.{BadText, BadLine, AxiomFails, ClaimMissing, ClaimDisagrees, IndividualDisagrees, NoContradiction, TaxonomyDiffers, InstancesDiffer}
use Rattle.cert_check.specs.Acceptance.{Agrees, ClaimHolds}
use Rattle.cert_check.specs.Verdict.{HasClaim, ClaimsHold, IndividualAgrees, ClaimsAgainst, ListingAgainst, ConsistentAgainst, ConsistentAgainstShown}
use Rattle.cert_check.proofs.Claimed.{first_as, each_as}

-- ---- an interpretation that is folded onto another

module _ (o : Ontology) (w : IsOntology o) (i j : Interpretation) (f : ℕ → ℕ) (fo : Folds o i j f) where
  -- an element agrees with a subject where that which it comes to does
  agree_same : (lines : List Line) (subject : Subject) (x : ℕ) → x < i.size → Agrees o i lines subject x ↔ Agrees o j lines subject (f x)
  agree_same lines subject x lx = (
    λ h c e g. (let s = stays o w i j f fo e x (slice_get_within o.nodes e _ g) lx in let k = h c e g in (λ m. k.0 (s.1 m), λ line. s.0 (k.1 line))),
    λ h c e g. (let s = stays o w i j f fo e x (slice_get_within o.nodes e _ g) lx in let k = h c e g in (λ m. k.0 (s.0 m), λ line. s.1 (k.1 line))),
  )

  -- the one is a model where the other is
  model_same : IsInterpretation i → IsInterpretation j → IsModel i (axiom_trees o) ↔ IsModel j (axiom_trees o)
  model_same v u = (
    λ h. record {
      interpretation = u;
      satisfied = All-map (Satisfies j) (axiom_tree o) o.axioms (λ k b lk. axiom_to o w i j f fo v (get_or o.axioms k b) (w.axioms k b lk) (All-from_map (Satisfies i) (axiom_tree o) o.axioms h.satisfied k b lk));
    },
    λ h. record {
      interpretation = v;
      satisfied = All-map (Satisfies i) (axiom_tree o) o.axioms (λ k b lk. axiom_from o w i j f fo v (get_or o.axioms k b) (w.axioms k b lk) (All-from_map (Satisfies j) (axiom_tree o) o.axioms h.satisfied k b lk));
    },
  )

-- what a member of a mapped list comes from
member_from : {X Y : Type 0} (f : X → Y) (xs : List X) (y : Y) → Contains (map f xs) y → (x : X) × Contains xs x × (f x ≡ y)
member_from f xs y c =
    let (k, at) = slice_get-from_Contains (map f xs) y c in
    let (x, there, is) = slice_get_map_from f xs k y at in
    (x, Contains-from_slice_get xs k x there, is)

-- ---- a listing and one onto which it is folded

module _ (o : Ontology) (w : IsOntology o) (l m : Listed) (fits : IsListedOf o l) (f : ℕ → ℕ) (fo : FoldsListing o l m f) where
  module _ (i j : Interpretation) (p : IsListing o l i) (q : IsListing o m j) (v : IsInterpretation i) (u : IsInterpretation j) where
    folds : Folds o i j f
    folds = fo.folded i j p q v u

    agrees_same : (lines : List Line) (subject : Subject) (x : ℕ) → x < l.domain → Agrees o i lines subject x ↔ Agrees o j lines subject (f x)
    agrees_same lines subject x lx = agree_same o w i j f folds lines subject x (subst (λ k. x < k) (sym p.size) lx)

    claims_same : (lines : List Line) (claim : ℕ × ℕ) → Contains l.claims claim → ClaimHolds o i lines claim ↔ ClaimHolds o j lines (folded_claim f claim)
    claims_same lines claim there =
        let ((c, g), lx) = All-contains (λ c. IsNamedClass o c.0 × (c.1 < l.domain)) l.claims claim fits.claims there in
        let s = stays o w i j f folds claim.0 claim.1 (slice_get_within o.nodes claim.0 _ g) (subst (λ k. claim.1 < k) (sym p.size) lx) in
        let a = agrees_same lines (Expression claim.0) claim.1 lx in
        (λ h. record { member = s.0 h.member; agrees = a.0 h.agrees }, λ h. record { member = s.1 h.member; agrees = a.1 h.agrees })

  claim_to : (claim : ℕ × ℕ) → Contains l.claims claim → Contains m.claims (folded_claim f claim)
  claim_to claim c = subst (λ (claims : List (ℕ × ℕ)). Contains claims (folded_claim f claim)) (sym fo.claims) (Contains-map (folded_claim f) l.claims claim c)

  claim_from : (claim : ℕ × ℕ) → Contains m.claims claim → (old : ℕ × ℕ) × Contains l.claims old × (folded_claim f old ≡ claim)
  claim_from claim c = member_from (folded_claim f) l.claims claim (subst (λ (claims : List (ℕ × ℕ)). Contains claims claim) fo.claims c)

  -- folding keeps for which classes something is claimed
  has_claim_same : (lines : List Line) (c : ℕ) → HasClaim o lines l c ↔ HasClaim o lines m c
  has_claim_same lines c = (
    λ h e g some. (let (x, there) = h e g some in (f x, claim_to (e, x) there)),
    λ h e g some.
        (let (y, there) = h e g some in
        let (old, from, is) = claim_from (e, y) there in
        (old.1, subst (λ k. Contains l.claims (k, old.1)) (ap (λ (k : ℕ × ℕ). k.0) is) from)),
  )

  module _ (i j : Interpretation) (p : IsListing o l i) (q : IsListing o m j) (v : IsInterpretation i) (u : IsInterpretation j) (lines : List Line) where
    claims_hold_same : (c : ℕ) → ClaimsHold o i lines l c ↔ ClaimsHold o j lines m c
    claims_hold_same c = (
      λ h e y g there.
          (let (old, from, is) = claim_from (e, y) there in
          let g' : IsClassAt o c old.0 = subst (IsClassAt o c) (sym (ap (λ (k : ℕ × ℕ). k.0) is)) g in
          subst (ClaimHolds o j lines) is ((claims_same i j p q v u lines old from).0 (h old.0 old.1 g' from))),
      λ h e x g there. (claims_same i j p q v u lines (e, x) there).1 (h e (f x) g (claim_to (e, x) there)),
    )

    individual_same : (a x : ℕ) → slice_get l.individuals a ≡ Some x → Agrees o i lines (Individual a) x ↔ Agrees o j lines (Individual a) (f x)
    individual_same a x g = agrees_same i j p q v u lines (Individual a) x (All-contains (λ x. x < l.domain) l.individuals x fits.individuals (Contains-from_slice_get l.individuals a x g))

    individuals_same : (a : ℕ) → IndividualAgrees o i lines l a ↔ IndividualAgrees o j lines m a
    individuals_same a = (
      λ h y g.
          (let (x, there, is) = slice_get_map_from f l.individuals a y (subst (λ (xs : List ℕ). slice_get xs a ≡ Some y) fo.individuals g) in
          subst (λ z. Agrees o j lines (Individual a) z) is ((individual_same a x there).0 (h x there))),
      λ h x g.
          (individual_same a x g).1
          (h (f x) (subst (λ (xs : List ℕ). slice_get xs a ≡ Some (f x)) (sym fo.individuals) (slice_get_map f l.individuals a x g))),
    )

    back : {A B : ℕ → Type 0} → ((k : ℕ) → A k ↔ B k) → (k : ℕ) → B k ↔ A k
    back same k = ((same k).1, (same k).0)

    claims_against_to : (reason : Option Reason) → ClaimsAgainst o i lines l reason → ClaimsAgainst o j lines m reason
    claims_against_to (Some (ClaimMissing c)) h = first_as (HasClaim o lines l) (HasClaim o lines m) (has_claim_same lines) c.0 h
    claims_against_to (Some (ClaimDisagrees c)) h = (
      each_as (HasClaim o lines l) (HasClaim o lines m) (has_claim_same lines) h.0,
      first_as (ClaimsHold o i lines l) (ClaimsHold o j lines m) claims_hold_same c.0 h.1,
    )
    claims_against_to (Some (IndividualDisagrees a)) h = (
      each_as (HasClaim o lines l) (HasClaim o lines m) (has_claim_same lines) h.0,
      each_as (ClaimsHold o i lines l) (ClaimsHold o j lines m) claims_hold_same h.1,
      first_as (IndividualAgrees o i lines l) (IndividualAgrees o j lines m) individuals_same a.0 h.2,
    )
    claims_against_to None h = (
      each_as (HasClaim o lines l) (HasClaim o lines m) (has_claim_same lines) h.0,
      each_as (ClaimsHold o i lines l) (ClaimsHold o j lines m) claims_hold_same h.1,
      each_as (IndividualAgrees o i lines l) (IndividualAgrees o j lines m) individuals_same h.2,
    )
    claims_against_to _ h = absurd h

    claims_against_from : (reason : Option Reason) → ClaimsAgainst o j lines m reason → ClaimsAgainst o i lines l reason
    claims_against_from (Some (ClaimMissing c)) h = first_as (HasClaim o lines m) (HasClaim o lines l) (back (has_claim_same lines)) c.0 h
    claims_against_from (Some (ClaimDisagrees c)) h = (
      each_as (HasClaim o lines m) (HasClaim o lines l) (back (has_claim_same lines)) h.0,
      first_as (ClaimsHold o j lines m) (ClaimsHold o i lines l) (back claims_hold_same) c.0 h.1,
    )
    claims_against_from (Some (IndividualDisagrees a)) h = (
      each_as (HasClaim o lines m) (HasClaim o lines l) (back (has_claim_same lines)) h.0,
      each_as (ClaimsHold o j lines m) (ClaimsHold o i lines l) (back claims_hold_same) h.1,
      first_as (IndividualAgrees o j lines m) (IndividualAgrees o i lines l) (back individuals_same) a.0 h.2,
    )
    claims_against_from None h = (
      each_as (HasClaim o lines m) (HasClaim o lines l) (back (has_claim_same lines)) h.0,
      each_as (ClaimsHold o j lines m) (ClaimsHold o i lines l) (back claims_hold_same) h.1,
      each_as (IndividualAgrees o j lines m) (IndividualAgrees o i lines l) (back individuals_same) h.2,
    )
    claims_against_from _ h = absurd h

    abbrev fold : Folds o i j f
    fold = folds i j p q v u

    module _ (t s : List ℕ) where
      against_to : (reason : Option Reason) → ListingAgainst o t s lines l i reason → ListingAgainst o t s lines m j reason
      against_to (Some (AxiomFails k)) h = (first_stays o w i j f fold v k).0 h
      against_to (Some (ClaimMissing c)) h = ((model_same o w i j f fold v u).0 h.0, claims_against_to (Some (ClaimMissing c)) h.1)
      against_to (Some (ClaimDisagrees c)) h = ((model_same o w i j f fold v u).0 h.0, claims_against_to (Some (ClaimDisagrees c)) h.1)
      against_to (Some (IndividualDisagrees a)) h = ((model_same o w i j f fold v u).0 h.0, claims_against_to (Some (IndividualDisagrees a)) h.1)
      against_to (Some (TaxonomyDiffers at)) h = ((model_same o w i j f fold v u).0 h.0, claims_against_to None h.1, h.2)
      against_to (Some (InstancesDiffer at)) h = ((model_same o w i j f fold v u).0 h.0, claims_against_to None h.1, h.2)
      against_to (Some (BadText at)) h = absurd h.2.texts
      against_to (Some (BadLine k)) h = absurd h.2.texts
      against_to (Some NoContradiction) h = absurd h.2.texts
      against_to None h = ((model_same o w i j f fold v u).0 h.0, claims_against_to None h.1, h.2)

      against_from : (reason : Option Reason) → ListingAgainst o t s lines m j reason → ListingAgainst o t s lines l i reason
      against_from (Some (AxiomFails k)) h = (first_stays o w i j f fold v k).1 h
      against_from (Some (ClaimMissing c)) h = ((model_same o w i j f fold v u).1 h.0, claims_against_from (Some (ClaimMissing c)) h.1)
      against_from (Some (ClaimDisagrees c)) h = ((model_same o w i j f fold v u).1 h.0, claims_against_from (Some (ClaimDisagrees c)) h.1)
      against_from (Some (IndividualDisagrees a)) h = ((model_same o w i j f fold v u).1 h.0, claims_against_from (Some (IndividualDisagrees a)) h.1)
      against_from (Some (TaxonomyDiffers at)) h = ((model_same o w i j f fold v u).1 h.0, claims_against_from None h.1, h.2)
      against_from (Some (InstancesDiffer at)) h = ((model_same o w i j f fold v u).1 h.0, claims_against_from None h.1, h.2)
      against_from (Some (BadText at)) h = absurd h.2.texts
      against_from (Some (BadLine k)) h = absurd h.2.texts
      against_from (Some NoContradiction) h = absurd h.2.texts
      against_from None h = ((model_same o w i j f fold v u).1 h.0, claims_against_from None h.1, h.2)

  -- there is an interpretation that the other listing lists
  reasons_same : (t s : List ℕ) (lines : List Line) (reason : Option Reason) → ConsistentAgainst o t s lines l reason ↔ ConsistentAgainst o t s lines m reason
  reasons_same t s lines reason = (
    λ h.
        (let j = listed_interpretation o m in
        let q = listing_is o w m fo.listed in
        let u = interpretation_is o w m fo.listed in
        record { i = j; listing = q; interpretation = u; against = against_to h.i j h.listing q h.interpretation u lines t s reason h.against }),
    λ h.
        (let i = listed_interpretation o l in
        let p = listing_is o w l fits in
        let v = interpretation_is o w l fits in
        record { i = i; listing = p; interpretation = v; against = against_from i h.i p h.listing v h.interpretation lines t s reason h.against }),
  )

pub folded_reasons_same : (o : Ontology) → IsOntology o → (l m : Listed) → IsListedOf o l → IsFoldedListing o l m → (t s : List ℕ) (lines : List Line) (reason : Option Reason) → ConsistentAgainst o t s lines l reason ↔ ConsistentAgainst o t s lines m reason
folded_reasons_same o w l m fits (f, fo) = reasons_same o w l m fits f fo

-- the same of what is kept of lines
pub shown_same : (o : Ontology) → IsOntology o → (l m : Listed) → IsListedOf o l → IsFoldedListing o l m → (t s : List ℕ) (above types : List (List ℕ)) (reason : Option Reason) → ConsistentAgainstShown o t s above types m reason → ConsistentAgainstShown o t s above types l reason
shown_same o w l m fits fo t s above types reason h = λ lines above_is types_are. (folded_reasons_same o w l m fits fo t s lines reason).1 (h lines above_is types_are)

-- ---- a listing and the narrowed one

pub narrowed_agrees_same : (o : Ontology) → IsOntology o → (l m : Listed) → IsListedOf o l → (n : IsNarrowed l m) →
    (i j : Interpretation) → IsListing o l i → IsListing o m j → IsInterpretation i → IsInterpretation j →
    (lines : List Line) (subject : Subject) (x : ℕ) → x < l.domain → Agrees o i lines subject x ↔ Agrees o j lines subject (place_among n.used x)
narrowed_agrees_same o w l m fits n = agrees_same o w l m fits (place_among n.used) (narrowed_is_folded o w l m fits n)

pub narrowed_claims_same : (o : Ontology) → IsOntology o → (l m : Listed) → IsListedOf o l → (n : IsNarrowed l m) →
    (i j : Interpretation) → IsListing o l i → IsListing o m j → IsInterpretation i → IsInterpretation j →
    (lines : List Line) (claim : ℕ × ℕ) → Contains l.claims claim → ClaimHolds o i lines claim ↔ ClaimHolds o j lines (narrowed_claim n.used claim)
narrowed_claims_same o w l m fits n = claims_same o w l m fits (place_among n.used) (narrowed_is_folded o w l m fits n)

pub narrowed_reasons_same : (o : Ontology) → IsOntology o → (l m : Listed) → IsListedOf o l → IsNarrowed l m → (t s : List ℕ) (lines : List Line) (reason : Option Reason) → ConsistentAgainst o t s lines l reason ↔ ConsistentAgainst o t s lines m reason
narrowed_reasons_same o w l m fits n = folded_reasons_same o w l m fits (place_among n.used, narrowed_is_folded o w l m fits n)

-- ---- a listing, one onto which it is folded, and the narrowed one of that

module _ (o : Ontology) (w : IsOntology o) (l few m : Listed) (fits : IsListedOf o l) (fo : IsFoldedListing o l few) (n : IsNarrowed few m) where
  narrows : FoldsListing o few m (place_among n.used)
  narrows = narrowed_is_folded o w few m fo.1.listed n

  pub narrow_fits : IsListedOf o m
  narrow_fits = narrows.listed

  pub shown_by_narrow : (t s : List ℕ) (above types : List (List ℕ)) (reason : Option Reason) → ConsistentAgainstShown o t s above types m reason → ConsistentAgainstShown o t s above types l reason
  shown_by_narrow t s above types reason h = shown_same o w l few fits fo t s above types reason (shown_same o w few m fo.1.listed (place_among n.used, narrows) t s above types reason h)
