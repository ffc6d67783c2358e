-- Pairs that are added one by one.
use Rattle.std.proofs.Common.{◌≡◌, ◌↔◌, ℕ, ◌+◌, ◌/◌, ◌%◌, ◌^◌, ◌<◌, ◌≤◌, inl, inr, List, [], ◌∷◌, ◌++◌, length, get_or, take, Contains, slice_get, Some, refl, sym, ap, ap₂, ◌∙◌, subst, arith}
use Rattle.std.proofs.lemmas.Bool.{cases_lt}
use Rattle.std.proofs.lemmas.List.{set_past}
use Rattle.std.specs.Prelude.{slice_set}
use Rattle.axioms.specs.WellFormedness.{AreDistinct}
use Rattle.axioms.specs.declared.ids.PropId.{PropId}
use Rattle.normal_forms.specs.declared.forms.PropId2.{PropId2}
use Rattle.normal_forms.specs.declared.forms.PropId2.TheVariants.{Property}
use Rattle.property_closure.specs.PropertyClosures.{Known}
use Rattle.number_sets.specs.Pieces.{list_at}
use Rattle.number_sets.proofs.Members.{all_taken, none_taken, one_more_item, one_more_taken}
use Rattle.facts.specs.declared.contexts.Context as code
use Rattle.facts.specs.declared.contexts.Fact.{Fact}
use Rattle.facts.specs.declared.contexts.Fact.TheVariants.{Edge}
use Rattle.closure.specs.Closure.{Context}
use Rattle.closure.specs.Denotations.{context_of}
use Rattle.countermodel.specs.declared.pair.Pair.{Pair}
use Rattle.countermodel.specs.declared.pair.PairRange.{PairRange}
use Rattle.countermodel.specs.Ranges.{IsWithin, Within}
use Rattle.countermodel.specs.Keys.{HasPair, pair_at}
use Rattle.countermodel.specs.Edges.{AddsPairs, IsAboveIn, IsGiven, IsGivenBy, IsSuper, IsWith}

-- the pair q with a property of the list
abbrev pub IsListedAbove : List PropId2 → Pair → Pair → Type 0
IsListedAbove list p q = Contains list (Property q.property) × (q.source ≡ p.source) × (q.target ≡ p.target)

abbrev triple : PropId → ℕ → ℕ → Pair
triple r x y = record { property = r; source = x; target = y }

-- ---- the pair with one property

same_triple : (r : PropId2) (id : PropId) (p q : Pair) → r ≡ Property id → IsWith r p q → q ≡ triple id p.source p.target
same_triple r id p q e (is, s, t) =
    let same : Property q.property ≡ Property id = sym is ∙ e in
    let name : q.property ≡ id = cc in
    ap (λ (i : PropId). triple i q.source q.target) name ∙ ap₂ (λ (x y : ℕ). triple id x y) s t

pub is_without : (W : Pair → Type 0) (r : PropId2) (id : PropId) (p : Pair) (old : List (List ℕ)) → r ≡ Property id → (W (triple id p.source p.target) → ⊥) → AddsPairs (λ q. IsWith r p q × W q) old old
is_without W r id p old e never q = (λ c. inl c, λ h. elim h [ inl was ↦ was | inr (is, w) ↦ absurd (never (subst W (same_triple r id p q e is) w)) ])

-- the pair's number in the list of its property
module _ (W : Pair → Type 0) (r : PropId2) (id : PropId) (p : Pair) (key : ℕ) (old : List (List ℕ)) (e : r ≡ Property id) (at_source : key / 2 ^ 32 ≡ p.source) (at_target : key % 2 ^ 32 ≡ p.target) where
  keyed : pair_at id.0 key ≡ triple id p.source p.target
  keyed = ap₂ (λ (x y : ℕ). triple id x y) at_source at_target

  pub is_with : id.0 < length old → W (triple id p.source p.target) → AddsPairs (λ q. IsWith r p q × W q) old (slice_set old id.0 (list_at old id.0 ++ key ∷ []))
  is_with low w q = (
    λ (j, c, same). elim ((one_more_item old id.0 key q.property.0 j low).0 c) [
      | inl was ↦ inl (j, was, same)
      | inr (at, is) ↦ inr (subst (λ (u : Pair). IsWith r p u × W u) (sym (sym same ∙ (ap₂ pair_at at is ∙ keyed))) ((e, refl, refl), w))
    ],
    λ h. elim h [
      | inl (j, c, same) ↦ (j, (one_more_item old id.0 key q.property.0 j low).1 (inl c), same)
      | inr (is, _) ↦ subst (HasPair (slice_set old id.0 (list_at old id.0 ++ key ∷ []))) (sym (same_triple r id p q e is)) (key, (one_more_item old id.0 key id.0 key low).1 (inr (refl, refl)), keyed)
    ],
  )

pub put : (range : PairRange) (r : PropId2) (id : PropId) (p : Pair) (key : ℕ) (old : List (List ℕ)) (place : ℕ) (now : List (List ℕ)) → r ≡ Property id → key / 2 ^ 32 ≡ p.source → key % 2 ^ 32 ≡ p.target → place ≡ id.0
    → now ≡ slice_set old place (list_at old place ++ key ∷ []) → IsWithin range (triple id p.source p.target) → AddsPairs (Within (length old) range (IsWith r p)) old now
put range r id p key old place now e at_source at_target at is within =
    let W : Pair → Type 0 = λ q. IsWithin range q × (q.property.0 < length old) in
    let there : now ≡ slice_set old id.0 (list_at old id.0 ++ key ∷ []) = is ∙ ap (λ (i : ℕ). slice_set old i (list_at old i ++ key ∷ [])) at in
    subst (AddsPairs (Within (length old) range (IsWith r p)) old) (sym there) (elim (cases_lt id.0 (length old)) [
      | inl low ↦ is_with W r id p key old e at_source at_target low (within, low)
      | inr past ↦ subst (AddsPairs (Within (length old) range (IsWith r p)) old) (sym (set_past old id.0 (list_at old id.0 ++ key ∷ []) past)) (is_without W r id p old e (λ w. omega (arith, past, w.1)))
    ])

-- ---- those of a list of properties

module _ (W : Pair → Type 0) (list : List PropId2) (p : Pair) where
  pub one_above : (k : ℕ) (d : PropId2) (old now new : List (List ℕ)) → k < length list → AddsPairs (λ q. IsWith (get_or list k d) p q × W q) now new
      → AddsPairs (λ q. IsListedAbove (take k list) p q × W q) old now → AddsPairs (λ q. IsListedAbove (take (k + 1) list) p q × W q) old new
  one_above k d old now new low adds before q =
      let more' = one_more_taken list k d (Property q.property) low in (
        λ c. elim ((adds q).0 c) [
          | inl h ↦ elim ((before q).0 h) [
            | inl was ↦ inl was
            | inr h' ↦ inr ((more'.1 (inl h'.0.0), h'.0.1, h'.0.2), h'.1)
          ]
          | inr h ↦ inr ((more'.1 (inr h.0.0), h.0.1, h.0.2), h.1)
        ],
        λ h. elim h [
          | inl was ↦ (adds q).1 (inl ((before q).1 (inl was)))
          | inr h' ↦ elim (more'.0 h'.0.0) [
            | inl earlier ↦ (adds q).1 (inl ((before q).1 (inr ((earlier, h'.0.1, h'.0.2), h'.1))))
            | inr e ↦ (adds q).1 (inr ((e, h'.0.1, h'.0.2), h'.1))
          ]
        ],
      )

  pub none_above : (old : List (List ℕ)) → AddsPairs (λ q. IsListedAbove (take 0 list) p q × W q) old old
  none_above old q = (λ c. inl c, λ h. elim h [ inl was ↦ was | inr h' ↦ absurd (none_taken list (Property q.property) h'.0.0) ])

  pub all_above : (k : Known) (n : ℕ) (old new : List (List ℕ)) → length list ≤ n → ((q : PropId2) → Contains list q ↔ IsSuper k (Property p.property) q)
      → AddsPairs (λ q. IsListedAbove (take n list) p q × W q) old new → AddsPairs (λ q. IsAboveIn k p q × W q) old new
  all_above k n old new past exact adds q =
      let all' = all_taken list n (Property q.property) past in
      let says = exact (Property q.property) in (
        λ c. elim ((adds q).0 c) [ inl was ↦ inl was | inr h ↦ inr ((says.0 (all'.0 h.0.0), h.0.1, h.0.2), h.1) ],
        λ h. elim h [ inl was ↦ (adds q).1 (inl was) | inr h' ↦ (adds q).1 (inr ((all'.1 (says.1 h'.0.0), h'.0.1, h'.0.2), h'.1)) ],
      )

-- ---- facts

module _ (W : Pair → Type 0) (k : Known) (elements : List Context) where
  pub of_edge : (x y : code.Context) (id : PropId) (source target : ℕ) (old new : List (List ℕ)) → AreDistinct elements
      → slice_get elements source ≡ Some (context_of x) → slice_get elements target ≡ Some (context_of y)
      → AddsPairs (λ q. IsAboveIn k (triple id source target) q × W q) old new → AddsPairs (λ q. IsGivenBy k elements (Edge x (Property id) y) q × W q) old new
  of_edge x y id source target old new apart at_source at_target adds p = (
    λ c. elim ((adds p).0 c) [
      | inl was ↦ inl was
      | inr ((super, s, t), w) ↦ inr ((ap (slice_get elements) s ∙ at_source, ap (slice_get elements) t ∙ at_target, super), w)
    ],
    λ h. elim h [
      | inl was ↦ (adds p).1 (inl was)
      | inr ((s, t, super), w) ↦ (adds p).1 (inr ((super, apart p.source source (context_of x) s at_source, apart p.target target (context_of y) t at_target), w))
    ],
  )

  pub more_given : (facts : List Fact) (n : ℕ) (d : Fact) (old new : List (List ℕ)) → n < length facts → ((p : Pair) → HasPair old p ↔ (IsGiven k elements (take n facts) p × W p))
      → AddsPairs (λ p. IsGivenBy k elements (get_or facts n d) p × W p) old new → (p : Pair) → HasPair new p ↔ (IsGiven k elements (take (n + 1) facts) p × W p)
  more_given facts n d old new low before adds p = (
    λ c. elim ((adds p).0 c) [
      | inl was ↦ (let ((fact, there, by), w) = (before p).0 was in ((fact, (one_more_taken facts n d fact low).1 (inl there), by), w))
      | inr (by, w) ↦ ((get_or facts n d, (one_more_taken facts n d (get_or facts n d) low).1 (inr refl), by), w)
    ],
    λ h.
        let ((fact, there, by), w) = h in
        elim ((one_more_taken facts n d fact low).0 there) [
          | inl earlier ↦ (adds p).1 (inl ((before p).1 ((fact, earlier, by), w)))
          | inr e ↦ (adds p).1 (inr (subst (λ (f : Fact). IsGivenBy k elements f p) (sym e) by, w))
        ],
  )

  pub all_given : (facts : List Fact) (n : ℕ) (p : Pair) → length facts ≤ n → (IsGiven k elements (take n facts) p × W p) ↔ (IsGiven k elements facts p × W p)
  all_given facts n p past = (
    λ h. ((h.0.0, (all_taken facts n h.0.0 past).0 h.0.1, h.0.2), h.1),
    λ h. ((h.0.0, (all_taken facts n h.0.0 past).1 h.0.1, h.0.2), h.1),
  )
