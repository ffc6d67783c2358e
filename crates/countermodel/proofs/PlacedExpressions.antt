-- Expressions that are placed in order, by their numbers.
use Rattle.std.proofs.Common.{◌≡◌, ◌↔◌, ℕ, ◌+◌, ◌<◌, inl, inr, List, [], ◌∷◌, ◌++◌, length, map, get_or, take, slice_get, Some, Contains, refl, sym, ap, ◌∙◌, subst, arith}
use Rattle.std.specs.Prelude.{slice_set}
use Rattle.std.proofs.lemmas.List.{get_or-map, length-map, length-take, map-append, take_more}
use Rattle.std.proofs.lemmas.List.Elements.{Contains-append_left, Contains-push, Contains-push_cases}
use Rattle.std.proofs.lemmas.Option.{get_or_from_slice_get}
use Rattle.lemmas.proofs.Mapped.{slice_get_map, slice_get_map_from}
use Rattle.lemmas.proofs.Members.{Contains-from_slice_get, slice_get-from_Contains}
use Rattle.lemmas.proofs.Places.{slice_get_push_cases, slice_get_take}
use Rattle.axioms.specs.declared.ids.ExprId.{ExprId}
use Rattle.certificate.specs.Writability.{Ascends}
use Rattle.cert_check.proofs.Additions.{slice_get-set_other, slice_get-set_same}
use Rattle.closure.specs.Closure.{Context, Expression, Individual}
use Rattle.exactness.specs.ListedInterpretation.{IsBefore}
use Rattle.facts.specs.declared.contexts.Context as code
use Rattle.facts.specs.declared.contexts.Context.TheVariants.{Expr}
use Rattle.listed_model.proofs.Given.{ascends_pairs}
use Rattle.number_sets.proofs.Members.{one_more_taken}
use Rattle.countermodel.specs.ContextLists.{AreBefore, PlacesExpressions, expression_at}
use Rattle.countermodel.specs.Elements.{contexts_of}

number_of : (f : ℕ) (e : ExprId) → expression_at f ≡ Expr e → f ≡ e.0
number_of f e is = (let same : record { 0 = f } ≡ e = cc in ap (λ (i : ExprId). i.0) same)

-- ---- the expressions among contexts

module _ (contexts : List code.Context) (k : ℕ) (d : code.Context) (low : k < length contexts) (numbers : List ℕ)
    (was : (e : ℕ) → Contains numbers e ↔ Contains (take k contexts) (expression_at e)) where
  pub one_expression : (id : ExprId) → get_or contexts k d ≡ Expr id → (e : ℕ) → Contains (numbers ++ id.0 ∷ []) e ↔ Contains (take (k + 1) contexts) (expression_at e)
  one_expression id is e = (
    λ c. (one_more_taken contexts k d (expression_at e) low).1 (elim (Contains-push_cases numbers id.0 e c) [
      | inl before ↦ inl ((was e).0 before)
      | inr same ↦ inr (is ∙ ap expression_at same)
    ]),
    λ c. elim ((one_more_taken contexts k d (expression_at e) low).0 c) [
      | inl before ↦ Contains-append_left numbers (id.0 ∷ []) e ((was e).1 before)
      | inr here ↦ subst (Contains (numbers ++ id.0 ∷ [])) (sym (number_of e id (sym here ∙ is))) (Contains-push numbers id.0)
    ],
  )

  pub no_expression : ((e : ℕ) → get_or contexts k d ≡ expression_at e → ⊥) → (e : ℕ) → Contains numbers e ↔ Contains (take (k + 1) contexts) (expression_at e)
  no_expression never e = (
    λ c. (one_more_taken contexts k d (expression_at e) low).1 (inl ((was e).0 c)),
    λ c. elim ((one_more_taken contexts k d (expression_at e) low).0 c) [ inl before ↦ (was e).1 before | inr here ↦ absurd (never e here) ],
  )

-- ---- their places

module _ (numbers : List ℕ) (ascend : Ascends numbers) (k : ℕ) (low : k < length numbers) (xs : List code.Context) (are : xs ≡ map expression_at (take k numbers)) where
  pub one_listed : xs ++ expression_at (get_or numbers k 0) ∷ [] ≡ map expression_at (take (k + 1) numbers)
  one_listed =
      ap (λ ys. ys ++ expression_at (get_or numbers k 0) ∷ []) are
      ∙ sym (map-append expression_at (take k numbers) (get_or numbers k 0 ∷ [])) ∙ ap (map expression_at) (sym (take_more numbers k 0 low))

  pub one_placed : (places : List ℕ) → get_or numbers k 0 < length places → PlacesExpressions xs places → PlacesExpressions (xs ++ expression_at (get_or numbers k 0) ∷ []) (slice_set places (get_or numbers k 0) k)
  one_placed places within placed m e at = elim (slice_get_push_cases xs (expression_at (get_or numbers k 0)) m (Expr e) at) [
    | inl before ↦
        let (f, there, is) = slice_get_map_from expression_at (take k numbers) m (Expr e) (subst (λ (ys : List code.Context). slice_get ys m ≡ Some (Expr e)) are before) in
        let same : f ≡ e.0 = number_of f e is in
        let (earlier, at_numbers) = slice_get_take k numbers m f there in
        let less : f < get_or numbers k 0 = subst (λ (x : ℕ). x < get_or numbers k 0) (get_or_from_slice_get numbers m f 0 at_numbers) (ascends_pairs numbers ascend m k 0 earlier low) in
        slice_get-set_other places (get_or numbers k 0) e.0 k (λ here. omega (arith, same, less, here)) ∙ placed m e before
    | inr here ↦
        let same : get_or numbers k 0 ≡ e.0 = number_of (get_or numbers k 0) e here.1 in
        let last : k ≡ m = omega (arith, here.0, ap length are, length-map (take k numbers) expression_at, length-take k numbers, low) in
        subst (λ (i : ℕ). slice_get (slice_set places (get_or numbers k 0) k) i ≡ Some m) same (slice_get-set_same places (get_or numbers k 0) k within ∙ ap Some last)
  ]

by_numbers : (numbers : List ℕ) → contexts_of (map expression_at numbers) ≡ map Expression numbers
by_numbers [] = refl
by_numbers (n ∷ ns) = ap (λ xs. Expression n ∷ xs) (by_numbers ns)

-- expressions by their numbers, in order, where of expressions P says that the number is there
pub expressions_in_order : (P : Context → Type 0) (numbers : List ℕ) (xs : List code.Context) → xs ≡ map expression_at numbers → Ascends numbers → ((e : ℕ) → Contains numbers e ↔ P (Expression e)) → AreBefore P (Individual 0) (contexts_of xs)
expressions_in_order P numbers xs are ascend says = subst (AreBefore P (Individual 0)) (sym (ap contexts_of are ∙ by_numbers numbers)) (record {
  ascend = λ i j d l low.
      let short : j < length numbers = omega (arith, low, length-map numbers Expression) in
      let a : get_or (map Expression numbers) i d ≡ Expression (get_or numbers i 0) = get_or-map Expression numbers i 0 d (omega arith) in
      let b : get_or (map Expression numbers) j d ≡ Expression (get_or numbers j 0) = get_or-map Expression numbers j 0 d short in
      rw (a, b) (ascends_pairs numbers ascend i j 0 l short);
  before = λ m x at. (let (e, there, is) = slice_get_map_from Expression numbers m x at in subst (λ (y : Context). IsBefore y (Individual 0)) is tt);
  pass = λ m x at. (let (e, there, is) = slice_get_map_from Expression numbers m x at in subst P is ((says e).0 (Contains-from_slice_get numbers m e there)));
  all = all;
})
  where
    all : (x : Context) → P x → IsBefore x (Individual 0) → (m : ℕ) × (slice_get (map Expression numbers) m ≡ Some x)
    all (Expression e) p l = (let (m, at) = slice_get-from_Contains numbers e ((says e).1 p) in (m, slice_get_map Expression numbers m e at))
    all (Individual a) p l = absurd (omega arith)
