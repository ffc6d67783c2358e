-- What the narrowed listing keeps: its members name what is there, in the order of the text, and it has no more elements.
use Rattle.std.proofs.Common.{◌≡◌, ℕ, ◌+◌, ◌<◌, ◌≤◌, ◌↔◌, inl, inr, List, [], ◌∷◌, length, get_or, map, Contains, refl, sym, ap, ◌∙◌, subst, subst₂, arith}
use Rattle.std.proofs.lemmas.Option.{slice_get_within, get_or_from_slice_get}
use Rattle.std.proofs.lemmas.List.{length-map}
use Rattle.std.proofs.lemmas.List.Elements.{Contains-get_or, All-contains, All-map}
use Rattle.axioms.specs.Ontology.{Ontology}
use Rattle.axioms.specs.WellFormedness.{IsOntology}
use Rattle.certificate.specs.Certificate.{Listed}
use Rattle.certificate.specs.Writability.{IsListedOf, IsNamedClass, AreElements, Ascends, IsPairBefore}
use Rattle.lemmas.proofs.Members.{Contains-later, Contains-from_slice_get}
use Rattle.lemmas.proofs.Pairs.{AllPairs-map}
use Rattle.narrowing.specs.Narrowed.{StandsIn, in_class, as_source, as_target, IsNarrowed, place_among, narrowed_domain, narrowed_class, narrowed_pairs, narrowed_claim, narrowed_to}
use Rattle.narrowing.proofs.Climbing.{Climbs, climbs, fitting, place_order}
use Rattle.narrowing.proofs.Folding.{domain_cases, below_domain, place_below}

-- ---- the order of the text

ascend_by_place : (used xs : List ℕ) → Climbs 0 used → ((x : ℕ) → Contains xs x → Contains used x) → Ascends xs → Ascends (map (place_among used) xs)
ascend_by_place used [] up there h = tt
ascend_by_place used (x ∷ []) up there h = tt
ascend_by_place used (x ∷ y ∷ ys) up there h = (
  place_order 0 used x y up (there x (0, omega arith, refl)) (there y (1, omega arith, refl)) h.0,
  ascend_by_place used (y ∷ ys) up (λ z c. there z (Contains-later x z (y ∷ ys) c)) h.1,
)

same_keys : (used : List ℕ) (rows : List (ℕ × List ℕ)) → map (λ c. c.0) (map (narrowed_class used) rows) ≡ map (λ c. c.0) rows
same_keys used [] = refl
same_keys used (row ∷ rows) = ap (λ ks. row.0 ∷ ks) (same_keys used rows)

same_claim_keys : (used : List ℕ) (claims : List (ℕ × ℕ)) → map (λ c. c.0) (map (narrowed_claim used) claims) ≡ map (λ c. c.0) claims
same_claim_keys used [] = refl
same_claim_keys used (claim ∷ claims) = ap (λ ks. claim.0 ∷ ks) (same_claim_keys used claims)

module _ (o : Ontology) (l : Listed) (fits : IsListedOf o l) (used : List ℕ) (up : Climbs 0 used) (exact : (x : ℕ) → Contains used x ↔ StandsIn l x) (w : IsOntology o) where
  abbrev bound : ℕ
  bound = narrowed_domain used l.domain

  are_elements : (xs : List ℕ) → ((x : ℕ) → Contains xs x → Contains used x) → AreElements l.domain xs → AreElements bound (map (place_among used) xs)
  are_elements xs there h = record {
    some = omega (arith, h.some, length-map xs (place_among used));
    within = All-map (λ x. x < bound) (place_among used) xs (λ k d lk. place_below o w l fits used up exact (get_or xs k d) (h.within k d lk));
    ascend = ascend_by_place used xs up there h.ascend;
  }

  class_fits : (row : ℕ × List ℕ) → Contains l.classes row → IsNamedClass o row.0 × (2 ≤ row.0) × AreElements bound (map (place_among used) row.1)
  class_fits row there =
      let (named, two, elements) = All-contains (λ c. IsNamedClass o c.0 × (2 ≤ c.0) × AreElements l.domain c.1) l.classes row fits.classes there in
      (named, two, are_elements row.1 (λ x c. (exact x).1 (in_class row there c)) elements)

  pairs_fit : (row : ℕ × ℕ × List ℕ) → Contains l.pairs row → (row.0 < length o.names.properties) × (place_among used row.1 < bound) × AreElements bound (map (place_among used) row.2)
  pairs_fit row there =
      let (property, source, elements) = All-contains (λ p. (p.0 < length o.names.properties) × (p.1 < l.domain) × AreElements l.domain p.2) l.pairs row fits.pairs there in
      (property, place_below o w l fits used up exact row.1 source, are_elements row.2 (λ x c. (exact x).1 (as_target row there c)) elements)

  before : (p q : ℕ × ℕ × List ℕ) → Contains l.pairs p → Contains l.pairs q → IsPairBefore p q → IsPairBefore (narrowed_pairs used p) (narrowed_pairs used q)
  before p q c d (inl h) = inl h
  before p q c d (inr h) = inr (h.0, place_order 0 used p.1 q.1 up ((exact p.1).1 (as_source p c refl)) ((exact q.1).1 (as_source q d refl)) h.1)

  pub stays_listed : IsListedOf o (narrowed_to used l)
  stays_listed = record {
    domain = elim (domain_cases used l.domain) [ inl k ↦ omega (arith, k.1) | inr k ↦ omega (arith, k.0, k.1, fits.domain) ];
    classes = All-map (λ c. IsNamedClass o c.0 × (2 ≤ c.0) × AreElements bound c.1) (narrowed_class used) l.classes (λ k d lk. class_fits (get_or l.classes k d) (Contains-get_or l.classes k d lk));
    classes_ascend = subst Ascends (sym (same_keys used l.classes)) fits.classes_ascend;
    pairs = All-map (λ p. (p.0 < length o.names.properties) × (p.1 < bound) × AreElements bound p.2) (narrowed_pairs used) l.pairs (λ k d lk. pairs_fit (get_or l.pairs k d) (Contains-get_or l.pairs k d lk));
    pairs_ascend = AllPairs-map IsPairBefore (narrowed_pairs used) l.pairs (λ m n p q mn gp gq.
        before p q (Contains-from_slice_get l.pairs m p gp) (Contains-from_slice_get l.pairs n q gq)
        (subst₂ IsPairBefore (get_or_from_slice_get l.pairs m p p gp) (get_or_from_slice_get l.pairs n q p gq) (fits.pairs_ascend m n p mn (slice_get_within l.pairs n q gq))));
    individuals = All-map (λ x. x < bound) (place_among used) l.individuals (λ k d lk. place_below o w l fits used up exact (get_or l.individuals k d) (fits.individuals k d lk));
    individuals_each = length-map l.individuals (place_among used) ∙ fits.individuals_each;
    claims = All-map (λ c. IsNamedClass o c.0 × (c.1 < bound)) (narrowed_claim used) l.claims (λ k d lk.
        (let c = fits.claims k d lk in (c.0, place_below o w l fits used up exact (get_or l.claims k d).1 c.1)));
    claims_ascend = subst Ascends (sym (same_claim_keys used l.claims)) fits.claims_ascend;
  }

  pub not_more : (bound ≤ l.domain) × (bound ≤ length used + 1)
  not_more =
      let most = fitting l.domain 0 used up (below_domain o w l fits used up exact) (omega arith) in
      elim (domain_cases used l.domain) [ inl k ↦ (omega (arith, k.0, k.1), omega (arith, k.1)) | inr k ↦ (omega (arith, k.1), omega (arith, k.1)) ]

pub is_listed : (o : Ontology) → IsOntology o → (l m : Listed) → IsListedOf o l → (n : IsNarrowed l m) → IsListedOf o m
is_listed o w l m fits n = subst (IsListedOf o) (sym n.narrowed) (stays_listed o l fits n.used (climbs n.used n.ascend) n.exact w)

pub is_narrow : (o : Ontology) → IsOntology o → (l m : Listed) → IsListedOf o l → (n : IsNarrowed l m) → (m.domain ≤ l.domain) × (m.domain ≤ length n.used + 1)
is_narrow o w l m fits n = subst (λ k. (k.domain ≤ l.domain) × (k.domain ≤ length n.used + 1)) (sym n.narrowed) (not_more o l fits n.used (climbs n.used n.ascend) n.exact w)
