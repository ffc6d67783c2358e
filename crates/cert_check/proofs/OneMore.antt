-- One more line behind lines that were tested.
use Rattle.std.proofs.Common.{◌≡◌, ◌↔◌, ℕ, ◌+◌, ◌⊎◌, ◌||◌, Bool, IsTrue, true, false, List, [], ◌∷◌, ◌++◌, length, take, slice_get, Some, None, Option, refl, sym, ap, ◌∙◌, subst, inl, inr, arith}
use Rattle.std.proofs.lemmas.Bool.{false≢true}
use Rattle.std.proofs.lemmas.List.{length-map, map_push}
use Rattle.std.proofs.lemmas.Option.{slice_get_within}
use Rattle.std.proofs.Math.Seq.{take-append_seam}
use Rattle.std.proofs.lemmas.List.{take-append-le}
use Rattle.lemmas.proofs.Places.{slice_get_push, keeps_push, slice_get_push_cases}
use Rattle.axioms.specs.Ontology.{Ontology}
use Rattle.certificate.specs.Certificate.{Line, Conclusion}
use Rattle.taxonomy.specs.Texts.{inconsistent_taxonomy_text, inconsistent_instances_text}
use Rattle.cert_check.specs.Derivation.{IsDerived, IsDerivation}
use Rattle.cert_check.specs.Faults.{IsFirstBadLine}
use Rattle.cert_check.specs.Lists.{said_by, AddsNumbers, PutsBelow, PutsInto, AreSuperclasses, AreTypes}
use Rattle.cert_check.specs.Tests.{AreTested}
use Rattle.cert_check.specs.Verdict.{IsContradiction, HasContradiction, AreShown, TextsAgainst, ContradictionAgainst, ContradictionAgainstShown}
use Rattle.cert_check.specs.declared.verdict.Reason.{Reason}
use Rattle.cert_check.specs.declared.verdict.Reason.TheVariants.{BadText, BadLine, AxiomFails, ClaimMissing, ClaimDisagrees, IndividualDisagrees, NoContradiction, TaxonomyDiffers, InstancesDiffer}
use Rattle.cert_check.proofs.Listwise.{some_push, superclasses_push, types_push}

-- what stands before a place does not hang on a line behind it
before_same : (lines : List Line) (last : Line) (n : ℕ) (line : Line) → slice_get lines n ≡ Some line → take n (lines ++ last ∷ []) ≡ take n lines
before_same lines last n line g = take-append-le n lines (last ∷ []) (omega (arith, slice_get_within lines n line g))

one_more_said : (lines : List Line) (last : Line) → said_by (lines ++ last ∷ []) ≡ said_by lines ++ last.conclusion ∷ []
one_more_said lines last = map_push (λ l. l.conclusion) lines last

derivation_more : (o : Ontology) (lines : List Line) (last : Line) → IsDerivation o lines → IsDerived o lines last → IsDerivation o (lines ++ last ∷ [])
derivation_more o lines last d h n line g = elim (slice_get_push_cases lines last n line g) [
  | inl there ↦ subst (λ before. IsDerived o before line) (sym (before_same lines last n line there)) (d n line there)
  | inr at_end ↦
      subst (λ l. IsDerived o (take n (lines ++ last ∷ [])) l) at_end.1
      (subst (λ k. IsDerived o (take k (lines ++ last ∷ [])) last) (sym at_end.0) (subst (λ before. IsDerived o before last) (sym (take-append_seam lines (last ∷ []))) h))
]

bad_stays : (o : Ontology) (lines : List Line) (last : Line) (n : ℕ) → IsFirstBadLine o lines n → IsFirstBadLine o (lines ++ last ∷ []) n
bad_stays o lines last n b = record {
  place = b.place;
  number_is = b.number_is;
  line = b.line;
  there = keeps_push lines last b.place b.line b.there;
  bad = λ d. b.bad (subst (λ before. IsDerived o before b.line) (before_same lines last b.place b.line b.there) d);
  before = λ k earlier lt g. elim (slice_get_push_cases lines last k earlier g) [
    | inl there ↦ subst (λ before. IsDerived o before earlier) (sym (before_same lines last k earlier there)) (b.before k earlier lt there)
    | inr at_end ↦ absurd (omega (arith, at_end.0, lt, slice_get_within lines b.place b.line b.there))
  ];
}

bad_now : (o : Ontology) (lines : List Line) (last : Line) → IsDerivation o lines → (IsDerived o lines last → ⊥) → IsFirstBadLine o (lines ++ last ∷ []) (length lines + 1)
bad_now o lines last d h = record {
  place = length lines;
  number_is = refl;
  line = last;
  there = slice_get_push lines last;
  bad = λ e. h (subst (λ before. IsDerived o before last) (take-append_seam lines (last ∷ [])) e);
  before = λ k earlier lt g. elim (slice_get_push_cases lines last k earlier g) [
    | inl there ↦ subst (λ before. IsDerived o before earlier) (sym (before_same lines last k earlier there)) (d k earlier there)
    | inr at_end ↦ absurd (omega (arith, at_end.0, lt))
  ];
}

-- where the lines so far are a derivation and the next follows
pub tested_good : (o : Ontology) (lines : List Line) (last : Line) (said : List Conclusion) → AreTested o lines said None → IsDerived o lines last
    → AreTested o (lines ++ last ∷ []) (said ++ last.conclusion ∷ []) None
tested_good o lines last said t h = record {
  said_is = ap (λ (cs : List Conclusion). cs ++ last.conclusion ∷ []) t.said_is ∙ sym (one_more_said lines last);
  bad_is = derivation_more o lines last t.bad_is h;
}

-- where the lines so far are a derivation and the next does not follow
pub tested_bad : (o : Ontology) (lines : List Line) (last : Line) (said : List Conclusion) → AreTested o lines said None → (IsDerived o lines last → ⊥)
    → AreTested o (lines ++ last ∷ []) (said ++ last.conclusion ∷ []) (Some (length said + 1))
tested_bad o lines last said t h =
    let long : length said ≡ length lines = ap length t.said_is ∙ length-map lines (λ l. l.conclusion) in
    record {
      said_is = ap (λ (cs : List Conclusion). cs ++ last.conclusion ∷ []) t.said_is ∙ sym (one_more_said lines last);
      bad_is = subst (λ n. IsFirstBadLine o (lines ++ last ∷ []) (n + 1)) (sym long) (bad_now o lines last t.bad_is h);
    }

-- where one of the lines so far is bad
pub tested_later : (o : Ontology) (lines : List Line) (last : Line) (said : List Conclusion) (n : ℕ) → AreTested o lines said (Some n)
    → AreTested o (lines ++ last ∷ []) (said ++ last.conclusion ∷ []) (Some n)
tested_later o lines last said n t = record {
  said_is = ap (λ (cs : List Conclusion). cs ++ last.conclusion ∷ []) t.said_is ∙ sym (one_more_said lines last);
  bad_is = bad_stays o lines last n t.bad_is;
}

-- ---- what lines show

either : (b c : Bool) → (b || c ≡ true) ↔ ((b ≡ true) ⊎ (c ≡ true))
either true c = (λ t. inl refl, λ h. refl)
either false c = (λ t. inr t, λ h. elim h [ inl e ↦ absurd (false≢true e) | inr e ↦ e ])

pub contradiction_more : (lines : List Line) (last : Line) (before now : Bool) → (IsTrue before ↔ HasContradiction lines) → (IsTrue now ↔ IsContradiction last.conclusion)
    → IsTrue (before || now) ↔ HasContradiction (lines ++ last ∷ [])
contradiction_more lines last before now b n =
    let e = either before now in
    let p = some_push (λ (l : Line). IsContradiction l.conclusion) lines last in (
      λ t. elim (e.0 t) [ inl u ↦ p.1 (inl (b.0 u)) | inr u ↦ p.1 (inr (n.0 u)) ],
      λ s. elim (p.0 s) [ inl u ↦ e.1 (inl (b.1 u)) | inr u ↦ e.1 (inr (n.1 u)) ],
    )

pub shown_more : (o : Ontology) (lines : List Line) (last : Line) (old now : Bool) (above above' types types' : List (List ℕ)) → AreShown o lines old above types
    → (IsTrue now ↔ HasContradiction (lines ++ last ∷ [])) → AddsNumbers (PutsBelow o last.conclusion) above above' → AddsNumbers (PutsInto o last.conclusion) types types'
    → AreShown o (lines ++ last ∷ []) now above' types'
shown_more o lines last old now above above' types types' s c a t = record {
  contradiction = c;
  superclasses = subst (λ (said : List Conclusion). AreSuperclasses o said above') (sym (one_more_said lines last)) (superclasses_push o (said_by lines) last.conclusion above above' a s.superclasses);
  members = subst (λ (said : List Conclusion). AreTypes o said types') (sym (one_more_said lines last)) (types_push o (said_by lines) last.conclusion types types' t s.members);
}

-- ---- the texts where a contradiction is to be shown

texts_against : (t i : List ℕ) (lines : List Line) (reason : Option Reason) → HasContradiction lines → TextsAgainst t i inconsistent_taxonomy_text inconsistent_instances_text reason → ContradictionAgainst t i lines reason
texts_against t i lines None h x = (h, x)
texts_against t i lines (Some (TaxonomyDiffers at)) h x = (h, x)
texts_against t i lines (Some (InstancesDiffer at)) h x = (h, x)
texts_against t i lines (Some NoContradiction) h x = absurd x
texts_against t i lines (Some (BadText at)) h x = absurd x
texts_against t i lines (Some (BadLine n)) h x = absurd x
texts_against t i lines (Some (AxiomFails n)) h x = absurd x
texts_against t i lines (Some (ClaimMissing c)) h x = absurd x
texts_against t i lines (Some (ClaimDisagrees c)) h x = absurd x
texts_against t i lines (Some (IndividualDisagrees c)) h x = absurd x

-- where a contradiction is shown, the texts are against it
pub contradiction_shown : (t i : List ℕ) (shown : Bool) (reason : Option Reason) → shown ≡ true
    → TextsAgainst t i inconsistent_taxonomy_text inconsistent_instances_text reason → ContradictionAgainstShown t i shown reason
contradiction_shown t i shown reason e x lines is = texts_against t i lines reason (is.0 e) x
