-- Lists to which numbers are added fact by fact.
use Rattle.std.proofs.Common.{◌≡◌, ◌↔◌, ◌==◌, ◌||◌, ℕ, ◌+◌, ◌<◌, List, [], ◌∷◌, ◌++◌, length, set, replicate, take, slice_get, Some, true, false, ◌⊎◌, inl, inr, refl, sym, ap, ◌∙◌, subst}
use Rattle.std.proofs.lemmas.Bool.{cases_eq, eq-eqb, eqb-true, false≢true, or_cases, or_left, or_right}
use Rattle.std.specs.List.{list_any}
use Rattle.std.proofs.lemmas.List.{get_or-set_same, get_or-set_other, length-set, length-replicate}
use Rattle.std.proofs.lemmas.List.Folds.{list_any-append}
use Rattle.std.proofs.lemmas.Option.{none-some}
use Rattle.lemmas.proofs.Places.{slice_get_push, keeps_push, slice_get_push_cases, take_push}
use Rattle.facts.specs.declared.contexts.Fact.{Fact}
use Rattle.number_sets.specs.Pieces.{list_at}
use Rattle.axioms.proofs.Trees.{one_class}
use Rattle.axioms.specs.Ontology.{Ontology, IsClassAt}
use Rattle.axioms.specs.declared.ids.ExprId.{ExprId}
use Rattle.facts.specs.declared.contexts.Fact.TheVariants.{In}
use Rattle.facts.specs.declared.contexts.Context.TheVariants as contexts
use Rattle.normal_forms.specs.declared.forms.Class2.TheVariants.{Expr}
use Rattle.taxonomy.specs.Relation.{is_listed}
use Rattle.classification.specs.Lists.{SomeFact, Adds, AreListsBy, PutsBelow, PutsInto, IsAboutIndividualOf}
use Rattle.cert_check.proofs.Listwise.{no_list}

-- ---- one more number

-- a number is among one more where it was before, or is the last
one_more : (xs : List ℕ) (x d : ℕ) → (list_any (λ e. e == d) (xs ++ x ∷ []) ≡ true) ↔ ((list_any (λ e. e == d) xs ≡ true) ⊎ (d ≡ x))
one_more xs x d = (
  λ t. elim (or_cases (list_any (λ e. e == d) xs) ((x == d) || false) (sym there ∙ t)) [
    | inl h ↦ inl h
    | inr h ↦ inr (sym (eqb-true x d (last h)))
  ],
  λ s. there ∙ elim s [
    | inl h ↦ or_left (list_any (λ e. e == d) xs) ((x == d) || false) h
    | inr is ↦ or_right (list_any (λ e. e == d) xs) ((x == d) || false) (or_left (x == d) false (eq-eqb x d (sym is)))
  ],
)
  where
    there : list_any (λ e. e == d) (xs ++ x ∷ []) ≡ (list_any (λ e. e == d) xs || ((x == d) || false))
    there = list_any-append (λ e. e == d) xs (x ∷ [])

    last : ((x == d) || false) ≡ true → (x == d) ≡ true
    last h = elim (or_cases (x == d) false h) [ inl t ↦ t | inr f ↦ absurd (false≢true f) ]

module _ (lists : List (List ℕ)) (a b : ℕ) (there : a < length lists) where
  longer : List (List ℕ)
  longer = set lists a (list_at lists a ++ b ∷ [])

  same_list : list_at longer a ≡ list_at lists a ++ b ∷ []
  unfolding longer
  same_list = get_or-set_same lists a (list_at lists a ++ b ∷ []) [] there

  other_list : (c : ℕ) → (c ≡ a → ⊥) → list_at longer c ≡ list_at lists c
  unfolding longer
  other_list c apart = get_or-set_other lists a c (list_at lists a ++ b ∷ []) [] apart

  one_more_number : (c d : ℕ) → (is_listed longer c d ≡ true) ↔ ((is_listed lists c d ≡ true) ⊎ ((c ≡ a) × (d ≡ b)))
  one_more_number c d = elim (cases_eq c a) [
    | inl e ↦ (
      λ t. elim ((one_more (list_at lists a) b d).0 (sym (at_a e) ∙ t)) [ inl h ↦ inl (ap (λ k. is_listed lists k d) e ∙ h) | inr f ↦ inr (e, f) ],
      λ s. at_a e ∙ (one_more (list_at lists a) b d).1 (elim s [ inl h ↦ inl (sym (ap (λ k. is_listed lists k d) e) ∙ h) | inr w ↦ inr w.1 ]),
    )
    | inr ne ↦ (
      λ t. inl (sym (elsewhere ne) ∙ t),
      λ s. elim s [ inl h ↦ elsewhere ne ∙ h | inr w ↦ absurd (ne w.0) ],
    )
  ]
    where
      at_a : c ≡ a → is_listed longer c d ≡ list_any (λ e. e == d) (list_at lists a ++ b ∷ [])
      at_a e = ap (λ k. is_listed longer k d) e ∙ ap (list_any (λ e. e == d)) same_list

      elsewhere : (c ≡ a → ⊥) → is_listed longer c d ≡ is_listed lists c d
      elsewhere ne = ap (list_any (λ e. e == d)) (other_list c ne)

  pub adds_one : (puts : ℕ → ℕ → Type 0) → puts a b → ((c d : ℕ) → puts c d → (c ≡ a) × (d ≡ b)) → Adds puts lists (set lists a (list_at lists a ++ b ∷ []))
  unfolding longer
  adds_one puts here only = record {
    long = length-set lists a (list_at lists a ++ b ∷ []);
    each = λ c d.
        let number = one_more_number c d in (
          λ t. elim (number.0 t) [
            | inl h ↦ inl h
            | inr w ↦ inr (subst (λ k. puts k d) (sym w.0) (subst (λ k. puts a k) (sym w.1) here))
          ],
          λ s. elim s [ inl h ↦ number.1 (inl h) | inr p ↦ number.1 (inr (only c d p)) ],
        );
  }

-- a number that is put into one list, where nothing else is put
pub adds_here : (puts : ℕ → ℕ → Type 0) (old new : List (List ℕ)) (a b : ℕ) → a < length old → new ≡ set old a (list_at old a ++ b ∷ []) → puts a b → ((c d : ℕ) → puts c d → (c ≡ a) × (d ≡ b)) → Adds puts old new
adds_here puts old new a b there is here only = subst (Adds puts old) (sym is) (adds_one old a b there puts here only)

pub adds_none : (puts : ℕ → ℕ → Type 0) (lists : List (List ℕ)) → ((c d : ℕ) → puts c d → ⊥) → Adds puts lists lists
adds_none puts lists none = record { long = refl; each = λ c d. (λ t. inl t, λ s. elim s [ inl h ↦ h | inr p ↦ absurd (none c d p) ]) }

-- ---- one more fact

one_more_fact : (P : Fact → Type 0) (facts : List Fact) (last : Fact) → SomeFact (facts ++ last ∷ []) P ↔ (SomeFact facts P ⊎ P last)
one_more_fact P facts last = (
  λ (n, fact, at, p). elim (slice_get_push_cases facts last n fact at) [
    | inl before ↦ inl (n, fact, before, p)
    | inr now ↦ inr (subst P (sym now.1) p)
  ],
  λ h. elim h [
    | inl (n, fact, at, p) ↦ inl_more n fact at p
    | inr p ↦ (length facts, last, slice_get_push facts last, p)
  ],
)
  where
    inl_more : (n : ℕ) (fact : Fact) → slice_get facts n ≡ Some fact → P fact → SomeFact (facts ++ last ∷ []) P
    inl_more n fact at p = (n, fact, keeps_push facts last n fact at, p)

module _ (puts : Fact → ℕ → ℕ → Type 0) (count : ℕ) where
  pub lists_start : (lists : List (List ℕ)) → lists ≡ replicate count [] → AreListsBy puts count [] lists
  lists_start lists e = subst (AreListsBy puts count []) (sym e) (record { long = length-replicate count []; each = none })
    where
      none : (c d : ℕ) → (is_listed (replicate count []) c d ≡ true) ↔ SomeFact [] (λ fact. puts fact c d)
      none c d = (λ t. absurd (false≢true (sym (no_list count c d) ∙ t)), λ (n, fact, at, p). absurd (none-some fact at))

  pub lists_more : (facts : List Fact) (i : ℕ) (fact : Fact) → slice_get facts i ≡ Some fact → (old new : List (List ℕ))
      → AreListsBy puts count (take i facts) old → Adds (puts fact) old new → AreListsBy puts count (take (i + 1) facts) new
  lists_more facts i fact at old new before adds =
      subst (λ fs. AreListsBy puts count fs new) (sym (take_push facts i fact at)) (record { long = adds.long ∙ before.long; each = each })
    where
      each : (c d : ℕ) → (is_listed new c d ≡ true) ↔ SomeFact (take i facts ++ fact ∷ []) (λ f. puts f c d)
      each c d =
          let more = one_more_fact (λ f. puts f c d) (take i facts) fact in (
            λ t. elim ((adds.each c d).0 t) [ inl u ↦ more.1 (inl ((before.each c d).0 u)) | inr p ↦ more.1 (inr p) ],
            λ s. elim (more.0 s) [ inl u ↦ (adds.each c d).1 (inl ((before.each c d).1 u)) | inr p ↦ (adds.each c d).1 (inr p) ],
          )

-- ---- one fact puts one number into one list

pub puts_below_once : (o : Ontology) (fact : Fact) (c d : ℕ) → PutsBelow o fact c d → (c' d' : ℕ) → PutsBelow o fact c' d' → (c' ≡ c) × (d' ≡ d)
puts_below_once o fact c d (e, f, s, g, h) c' d' (e', f', s', g', h') =
    let same : In (Expr f) (contexts.Expr e) ≡ In (Expr f') (contexts.Expr e') = sym s ∙ s' in
    let first : e ≡ e' = cc in
    let second : f ≡ f' = cc in (
      one_class o c' c e'.0 g' (subst (λ (x : ExprId). IsClassAt o c x.0) first g),
      one_class o d' d f'.0 h' (subst (λ (x : ExprId). IsClassAt o d x.0) second h),
    )

pub puts_into_once : (o : Ontology) (fact : Fact) (a d : ℕ) → PutsInto o fact a d → (a' d' : ℕ) → PutsInto o fact a' d' → (a' ≡ a) × (d' ≡ d)
puts_into_once o fact a d (i, f, s, k, h) a' d' (i', f', s', k', h') =
    let same : In (Expr f) (contexts.Individual i) ≡ In (Expr f') (contexts.Individual i') = sym s ∙ s' in
    let first : i.0 ≡ i'.0 = cc in
    let second : f ≡ f' = cc in (
      sym k' ∙ sym first ∙ k,
      one_class o d' d f'.0 h' (subst (λ (x : ExprId). IsClassAt o d x.0) second h),
    )

-- the individual that a fact puts into a class is there, where the fact is about one of the ontology
pub individual_in : (o : Ontology) (fact : Fact) (a d : ℕ) → PutsInto o fact a d → IsAboutIndividualOf o fact → a < length o.names.individuals
individual_in o fact a d (i, f, is, same, above) within = subst (λ n. n < length o.names.individuals) same (subst (IsAboutIndividualOf o) is within)
