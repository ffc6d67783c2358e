-- The certificate of an ontology with one subclass axiom is acceptable, in both formats.
use Rattle.std.proofs.Common.{◌≡◌, ℕ, zero, suc, ◌<◌, ◌≤◌, ◌↔◌, List, [], ◌∷◌, take, slice_get, All, Bool, true, false, ◌&&◌, ◌||◌, ◌==◌, if◌then◌else◌, Some, None, Contains, refl, sym, ap, ap₂, ◌∙◌, subst, subst₂, arith, ◌^◌, slice_index_or, codes, bytes_eq, true≢false, eqb-true, inl, inr}
use Rattle.std.specs.List.{list_any}
use Rattle.std.specs.Fmt.{digits}
use Rattle.std.proofs.lemmas.Bool.{or_cases, or_left, or_right, and_parts, and_from, eq-eqb}
use Rattle.std.proofs.lemmas.Option.{none-some, same_Some}
use Rattle.std.proofs.lemmas.List.Elements.{All-nil, All-cons, All-from_recursion}
use Rattle.axioms.specs.Expression.{owl_thing}
use Rattle.axioms.specs.Ontology.{Ontology, Class, SubClass, IsClassAt, axiom_trees, axiom_tree, name_at, nothing}
use Rattle.interpretation_spec.specs.Interpretation.{Interpretation, IsModel, Satisfies}
use Rattle.taxonomy.specs.Texts.{taxonomy_text, instances_text}
use Rattle.certificate.specs.Certificate.{Expression, Conclusion, Sub, Line, Listed, Certificate}
use Rattle.certificate.specs.declared.format.Format.{Format}
use Rattle.certificate.specs.declared.format.Format.TheVariants.{One, Two}
use Rattle.certificate.specs.declared.line.Rule.{Rule}
use Rattle.certificate.specs.declared.line.Rule.TheVariants.{K1, K2, K4}
use Rattle.cert_check.specs.Lines.{Follows}
use Rattle.certificate.specs.Writability.{certificate_numbers, AreEarlier, IsConclusionOf, IsLineOf, HasNumbers, HasText, AreElements, IsNamedClass}
use Rattle.cert_check.specs.Derivation.{IsDerived, IsDerivation, HasLine}
use Rattle.cert_check.specs.Acceptance.{Agrees, ClaimHolds, LiesBelow, IsConsistentShown}
use Rattle.listed_model.specs.Listing.{elements_of, IsListing}
use Rattle.cert_check.specs.Examples.{OneSubclassIsAccepted, OneSubclassIsAcceptedInFormatTwo}
use Rattle.cert_check.proofs.Places.{All-from_test}
use Rattle.axioms.specs.Examples.{one_subclass}
use Rattle.axioms.proofs.FourClasses.{number_at}

abbrev small : Ontology
small = one_subclass

abbrev pub lines : List Line
lines =
    record { conclusion = Sub (Expression 0) 0; rule = K1; axiom' = None; premises = [] }
    ∷ record { conclusion = Sub (Expression 1) 1; rule = K1; axiom' = None; premises = [] }
    ∷ record { conclusion = Sub (Expression 2) 2; rule = K1; axiom' = None; premises = [] }
    ∷ record { conclusion = Sub (Expression 2) 0; rule = K2; axiom' = None; premises = [] }
    ∷ record { conclusion = Sub (Expression 2) 3; rule = K4; axiom' = Some 1; premises = 3 ∷ [] }
    ∷ record { conclusion = Sub (Expression 3) 3; rule = K1; axiom' = None; premises = [] }
    ∷ record { conclusion = Sub (Expression 3) 0; rule = K2; axiom' = None; premises = [] }
    ∷ []

abbrev pub listed : Listed
listed = record {
  domain = 3;
  classes = (2, 1 ∷ []) ∷ (3, 1 ∷ 2 ∷ []) ∷ [];
  pairs = [];
  individuals = [];
  claims = (0, 0) ∷ (2, 1) ∷ (3, 2) ∷ [];
}

abbrev pub certificate : Certificate
certificate = record { lines = lines; listed = Some listed }

-- whether a line puts e below f
abbrev same_sub : ℕ → ℕ → Conclusion → Bool
same_sub e f (Sub (Expression m) n) = (m == e) && (n == f)
same_sub e f _ = false

abbrev has_sub : List Line → ℕ → ℕ → Bool
has_sub ls e f = list_any (λ l. same_sub e f l.conclusion) ls

same_sub_true : (e f : ℕ) (a : Conclusion) → same_sub e f a ≡ true → a ≡ Sub (Expression e) f
same_sub_true e f (Sub (Expression m) n) h =
    let (p, q) = and_parts (m == e) (n == f) h in
    ap₂ (λ m n. Sub (Expression m) n) (eqb-true m e p) (eqb-true n f q)
same_sub_true e f _ h = absurd (true≢false (sym h))

same_sub_itself : (e f : ℕ) → same_sub e f (Sub (Expression e) f) ≡ true
same_sub_itself e f = and_from (e == e) (f == f) (eq-eqb e e refl) (eq-eqb f f refl)

has_sub_line : (ls : List Line) (e f : ℕ) → has_sub ls e f ≡ true → HasLine ls (Sub (Expression e) f)
has_sub_line [] e f h = absurd (true≢false (sym h))
has_sub_line (l ∷ ls) e f h =
    elim (or_cases (same_sub e f l.conclusion) (has_sub ls e f) h) [
      | inl p ↦ (0, l, refl, same_sub_true e f l.conclusion p)
      | inr p ↦ let (n, line, g, q) = has_sub_line ls e f p in (suc n, line, g, q)
    ]

line_has_sub : (ls : List Line) (e f n : ℕ) (line : Line) → slice_get ls n ≡ Some line → line.conclusion ≡ Sub (Expression e) f → has_sub ls e f ≡ true
line_has_sub [] e f n line g q = absurd (none-some line g)
line_has_sub (l ∷ ls) e f zero line g q =
    or_left (same_sub e f l.conclusion) (has_sub ls e f)
    (subst (λ a. same_sub e f a ≡ true) (sym (ap (λ l. l.conclusion) (same_Some l line g) ∙ q)) (same_sub_itself e f))
line_has_sub (l ∷ ls) e f (suc n) line g q =
    or_right (same_sub e f l.conclusion) (has_sub ls e f) (line_has_sub ls e f n line g q)

sub_iff : (e f : ℕ) → (has_sub lines e f ≡ true) ↔ HasLine lines (Sub (Expression e) f)
sub_iff e f = (has_sub_line lines e f, λ (n, line, g, q). line_has_sub lines e f n line g q)

abbrev is_above : ℕ → ℕ → Bool
is_above c d = has_sub lines c 1 || has_sub lines c d

-- ---- named classes

same_number : (e c : ℕ) → IsClassAt small c e → c ≡ e
same_number e c g = sym (number_at e (Class c) g)

-- ---- derivation

no_premise : {before : List Line} (conclusion : Conclusion) (rule : Rule) → IsConclusionOf small conclusion → Follows small rule [] None conclusion → IsDerived small before (record { conclusion = conclusion; rule = rule; axiom' = None; premises = [] })
no_premise conclusion rule h f = record { within = record { conclusion = h; axiom' = tt }; premises = []; premises_at = refl; follows = f }

derivation : IsDerivation small lines
derivation zero line g = subst (IsDerived small (take 0 lines)) (same_Some _ line g) (no_premise _ _ (omega arith) refl)
derivation (suc zero) line g = subst (IsDerived small (take 1 lines)) (same_Some _ line g) (no_premise _ _ (omega arith) refl)
derivation (suc (suc zero)) line g = subst (IsDerived small (take 2 lines)) (same_Some _ line g) (no_premise _ _ (omega arith) refl)
derivation (suc (suc (suc zero))) line g = subst (IsDerived small (take 3 lines)) (same_Some _ line g) (no_premise _ _ (omega arith) refl)
derivation (suc (suc (suc (suc zero)))) line g = subst (IsDerived small (take 4 lines)) (same_Some _ line g) (record { within = record { conclusion = omega arith; axiom' = omega arith }; premises = Sub (Expression 2) 2 ∷ []; premises_at = refl; follows = (refl, refl, refl) })
derivation (suc (suc (suc (suc (suc zero))))) line g = subst (IsDerived small (take 5 lines)) (same_Some _ line g) (no_premise _ _ (omega arith) refl)
derivation (suc (suc (suc (suc (suc (suc zero)))))) line g = subst (IsDerived small (take 6 lines)) (same_Some _ line g) (no_premise _ _ (omega arith) refl)
derivation (suc (suc (suc (suc (suc (suc (suc n))))))) line g = absurd (none-some line g)

-- ---- the interpretation

abbrev class_of : List ℕ → ℕ → Bool
class_of name x =
    if bytes_eq name owl_thing then true else (if bytes_eq name (codes "x:A") then x == 1 else (if bytes_eq name (codes "x:B") then (x == 1) || (x == 2) else false))

abbrev i : Interpretation
i = record { size = 3; class = class_of; property = λ r x y. false; individual = λ a. 0 }

model : IsModel i (axiom_trees small)
model = record {
  interpretation = record { inhabited = omega arith; individuals = λ a. omega arith; thing = λ x l. refl; nothing = λ x l. refl };
  satisfied = All-cons (Satisfies i) (axiom_tree small (SubClass 2 3)) [] (λ x l h. or_left (x == 1) (x == 2) h) (All-nil (Satisfies i));
}

thing_claim : Agrees small i lines (Expression 0) 0
thing_claim c zero g = sub_iff 0 0
thing_claim c (suc zero) g = sub_iff 0 1
thing_claim c (suc (suc zero)) g = sub_iff 0 2
thing_claim c (suc (suc (suc zero))) g = sub_iff 0 3
thing_claim c (suc (suc (suc (suc e)))) g = absurd (none-some (Class c) g)

a_claim : Agrees small i lines (Expression 2) 1
a_claim c zero g = sub_iff 2 0
a_claim c (suc zero) g = sub_iff 2 1
a_claim c (suc (suc zero)) g = sub_iff 2 2
a_claim c (suc (suc (suc zero))) g = sub_iff 2 3
a_claim c (suc (suc (suc (suc e)))) g = absurd (none-some (Class c) g)

b_claim : Agrees small i lines (Expression 3) 2
b_claim c zero g = sub_iff 3 0
b_claim c (suc zero) g = sub_iff 3 1
b_claim c (suc (suc zero)) g = sub_iff 3 2
b_claim c (suc (suc (suc zero))) g = sub_iff 3 3
b_claim c (suc (suc (suc (suc e)))) g = absurd (none-some (Class c) g)

-- ---- the listing

listing_a : (x : ℕ) → x < 3 → (x == 1 ≡ true) ↔ Contains (1 ∷ []) x
listing_a zero l = (λ h. absurd (true≢false (sym h)), λ (k, lk, e). absurd (only_one k 0 lk e))
  where
    only_one : (k x : ℕ) → k < 1 → slice_index_or (1 ∷ []) k x ≡ 0 → ⊥
    only_one zero x l e = omega arith
    only_one (suc k) x l e = omega arith
listing_a (suc zero) l = (λ h. (0, omega arith, refl), λ h. refl)
listing_a (suc (suc zero)) l = (λ h. absurd (true≢false (sym h)), λ (k, lk, e). absurd (only_one k 2 lk e))
  where
    only_one : (k x : ℕ) → k < 1 → slice_index_or (1 ∷ []) k x ≡ 2 → ⊥
    only_one zero x l e = omega arith
    only_one (suc k) x l e = omega arith
listing_a (suc (suc (suc x))) l = absurd (omega arith)

listing_b : (x : ℕ) → x < 3 → ((x == 1) || (x == 2) ≡ true) ↔ Contains (1 ∷ 2 ∷ []) x
listing_b zero l = (λ h. absurd (true≢false (sym h)), λ (k, lk, e). absurd (neither k 0 lk e))
  where
    neither : (k x : ℕ) → k < 2 → slice_index_or (1 ∷ 2 ∷ []) k x ≡ 0 → ⊥
    neither zero x l e = omega arith
    neither (suc zero) x l e = omega arith
    neither (suc (suc k)) x l e = omega arith
listing_b (suc zero) l = (λ h. (0, omega arith, refl), λ h. refl)
listing_b (suc (suc zero)) l = (λ h. (1, omega arith, refl), λ h. refl)
listing_b (suc (suc (suc x))) l = absurd (omega arith)

listing_number : (c e x : ℕ) → IsClassAt small c e → 2 ≤ e → x < 3 → (class_of (name_at small.names.classes e) x ≡ true) ↔ Contains (elements_of listed.classes e) x
listing_number c zero x g h l = absurd (omega arith)
listing_number c (suc zero) x g h l = absurd (omega arith)
listing_number c (suc (suc zero)) x g h l = listing_a x l
listing_number c (suc (suc (suc zero))) x g h l = listing_b x l
listing_number c (suc (suc (suc (suc e)))) x g h l = absurd (none-some (Class c) g)

listing : IsListing small listed i
listing = record {
  size = refl;
  classes = λ c e x g h l. subst (λ k. (class_of (name_at small.names.classes k) x ≡ true) ↔ Contains (elements_of listed.classes e) x) (sym (same_number e c g)) (listing_number c e x g h l);
  pairs = λ r x y lr lx ly. absurd (omega arith);
  individuals = λ a x g. absurd (none-some x g);
}

claimed : (c e : ℕ) → IsClassAt small c e → (HasLine lines (Sub (Expression e) nothing) → ⊥) → (x : ℕ) × Contains listed.claims (e, x)
claimed c zero g h = (0, (0, omega arith, refl))
claimed c (suc zero) g h = absurd (h ((sub_iff 1 1).0 refl))
claimed c (suc (suc zero)) g h = (1, (1, omega arith, refl))
claimed c (suc (suc (suc zero))) g h = (2, (2, omega arith, refl))
claimed c (suc (suc (suc (suc e)))) g h = absurd (none-some (Class c) g)

relation : LiesBelow small lines is_above
relation = record {
  unsatisfiable = λ c e d g l h. subst (λ k. is_above k d ≡ true) (sym (same_number e c g)) (or_left (has_sub lines e 1) (has_sub lines e d) ((sub_iff e 1).1 h));
  by_line = λ c e d f g k some. subst₂ (λ c d. (is_above c d ≡ true) ↔ HasLine lines (Sub (Expression e) f)) (sym (same_number e c g)) (sym (same_number f d k)) (by_number e f some);
}
  where
    by_number : (e f : ℕ) → (HasLine lines (Sub (Expression e) nothing) → ⊥) → (is_above e f ≡ true) ↔ HasLine lines (Sub (Expression e) f)
    by_number e f some = (
      λ h. elim (or_cases (has_sub lines e 1) (has_sub lines e f) h) [ inl p ↦ absurd (some ((sub_iff e 1).0 p)) | inr p ↦ (sub_iff e f).0 p ],
      λ h. or_right (has_sub lines e 1) (has_sub lines e f) ((sub_iff e f).1 h),
    )

shown : IsConsistentShown small (taxonomy_text small.names.classes is_above) (instances_text small.names.classes [] is_above (λ a d. false)) lines listed
shown = record {
  i = i;
  listing = listing;
  model = model;
  claimed = claimed;
  claims = All-from_recursion (ClaimHolds small i lines) listed.claims
      (record { member = refl; agrees = thing_claim }, (record { member = refl; agrees = a_claim }, (record { member = refl; agrees = b_claim }, tt)));
  individuals = λ a x g. absurd (none-some x g);
  lies_below = is_above;
  belongs = λ a d. false;
  relation = relation;
  types = λ a d f l g. absurd (omega arith);
  taxonomy_is = refl;
  instances_is = refl;
}

over : (conclusion : Conclusion) (rule : Rule) (premises : List ℕ) → IsConclusionOf small conclusion → IsLineOf small (record { conclusion = conclusion; rule = rule; axiom' = None; premises = premises })
over conclusion rule premises h = record { conclusion = h; axiom' = tt }

has_text : (format : Format) → HasNumbers format lines → HasText small format certificate
has_text format written = record {
  lines = All-from_recursion (IsLineOf small) lines (
    over _ _ _ (omega arith),
    (
      over _ _ _ (omega arith),
      (
        over _ _ _ (omega arith),
        (
          over _ _ _ (omega arith),
          (record { conclusion = omega arith; axiom' = omega arith }, (over _ _ _ (omega arith), (over _ _ _ (omega arith), tt))),
        ),
      ),
    ),
  );
  premises = All-from_recursion (λ line. All (λ n. (1 ≤ n) × (n < 2 ^ 64)) line.premises) lines
      (none, (none, (none, (none, (All-from_recursion (λ n. (1 ≤ n) × (n < 2 ^ 64)) (3 ∷ []) (omega arith, tt), (none, (none, tt)))))));
  numbers = All-from_test (2 ^ 32) (certificate_numbers certificate) refl;
  listed = record {
    domain = omega arith;
    classes = All-from_recursion (λ c. IsNamedClass small c.0 × (2 ≤ c.0) × AreElements 3 c.1) listed.classes (
      ((2, refl), omega arith, record { some = omega arith; within = All-from_recursion (λ x. x < 3) (1 ∷ []) (omega arith, tt); ascend = tt }),
      (((3, refl), omega arith, record { some = omega arith; within = All-from_recursion (λ x. x < 3) (1 ∷ 2 ∷ []) (omega arith, (omega arith, tt)); ascend = omega arith }), tt),
    );
    classes_ascend = omega arith;
    pairs = All-nil (λ p. (p.0 < 0) × (p.1 < 3) × AreElements 3 p.2);
    pairs_ascend = λ i j d l k. absurd (omega arith);
    individuals = All-nil (λ x. x < 3);
    individuals_each = refl;
    claims = All-from_recursion (λ c. IsNamedClass small c.0 × (c.1 < 3)) listed.claims
        (((0, refl), omega arith), (((2, refl), omega arith), (((3, refl), omega arith), tt)));
    claims_ascend = omega arith;
  };
  written = written;
}
  where
    none : All (λ n. (1 ≤ n) × (n < 2 ^ 64)) []
    none = All-nil (λ n. (1 ≤ n) × (n < 2 ^ 64))

pub one_subclass_is_accepted : OneSubclassIsAccepted
unfolding digits
one_subclass_is_accepted = record {
  certificate = certificate;
  text_is = (One, record { has_text = has_text One tt; spelled = refl });
  derivation = derivation;
  shows = shown;
}

earlier : AreEarlier 1 lines
earlier = (none 1, (none 2, (none 3, (none 4, (All-from_recursion (λ p. p < 5) (3 ∷ []) (omega arith, tt), (none 6, (none 7, tt)))))))
  where
    none : (n : ℕ) → All (λ p. p < n) []
    none n = All-nil (λ p. p < n)

pub is_accepted_in_format_two : OneSubclassIsAcceptedInFormatTwo
unfolding digits
is_accepted_in_format_two = record {
  certificate = certificate;
  text_is = (Two, record { has_text = has_text Two (omega arith, earlier); spelled = refl });
  derivation = derivation;
  shows = shown;
}
