-- Lists by context, as they grow.
use Rattle.std.proofs.Common.{◌≡◌, ℕ, zero, suc, ◌+◌, ◌<◌, inl, inr, ⊎_elim, List, [], ◌∷◌, length, get_or, Contains, refl, sym, ap, subst, ◌∙◌, arith}
use Rattle.std.proofs.lemmas.List.{get_or_push, length_push}
use Rattle.std.proofs.lemmas.List.Elements.{Contains-push}
use Rattle.axioms.specs.declared.ids.ExprId.{ExprId}
use Rattle.axioms.specs.declared.ids.IndId.{IndId}
use Rattle.facts.specs.declared.contexts.Context.{Context}
use Rattle.facts.specs.declared.contexts.Context.TheVariants.{Expr, Individual}
use Rattle.facts.specs.declared.contexts.Fact.{Fact}
use Rattle.indexes.specs.Tables.{at, Adds, PutsLast}
use Rattle.indexes.specs.declared.by_context.ByContext.{ByContext}
use Rattle.indexes.specs.Contexts.{at_context, AddsAt, EndsAt, IsLast, IsSameAt, PutsLastAt}
use Rattle.indexes.specs.FactIndex.{MayListIn}

pub adds_expression : (old new : ByContext) (e : ExprId) (number : ℕ) → Adds old.expressions new.expressions e.0 number → new.individuals ≡ old.individuals → AddsAt old new (Expr e) number
adds_expression old new e number adds same (Expr d) n = (
  λ c. ⊎_elim (λ w. inl w) (λ w. inr (ap (λ v. Expr (record { 0 = v })) w.0, w.1)) ((adds d.0 n).0 c),
  λ w. (adds d.0 n).1 (⊎_elim (λ (c : Contains (at old.expressions d.0) n). inl c) (λ (v : (Expr d ≡ Expr e) × (n ≡ number)). inr ((let p = v.0 in cc), v.1)) w),
)
adds_expression old new e number adds same (Individual d) n = (
  λ c. inl (rw same at c),
  λ w. rw same (⊎_elim (λ (c : Contains (at old.individuals d.0) n). c) (λ (v : (Individual d ≡ Expr e) × (n ≡ number)). (let p = v.0 in cc)) w),
)

pub adds_individual : (old new : ByContext) (a : IndId) (number : ℕ) → Adds old.individuals new.individuals a.0 number → new.expressions ≡ old.expressions → AddsAt old new (Individual a) number
adds_individual old new a number adds same (Individual d) n = (
  λ c. ⊎_elim (λ w. inl w) (λ w. inr (ap (λ v. Individual (record { 0 = v })) w.0, w.1)) ((adds d.0 n).0 c),
  λ w. (adds d.0 n).1 (⊎_elim (λ (c : Contains (at old.individuals d.0) n). inl c) (λ (v : (Individual d ≡ Individual a) × (n ≡ number)). inr ((let p = v.0 in cc), v.1)) w),
)
adds_individual old new a number adds same (Expr d) n = (
  λ c. inl (rw same at c),
  λ w. rw same (⊎_elim (λ (c : Contains (at old.expressions d.0) n). c) (λ (v : (Expr d ≡ Individual a) × (n ≡ number)). (let p = v.0 in cc)) w),
)

pub puts_expression : (old new : ByContext) (e : ExprId) (number : ℕ) → PutsLast old.expressions new.expressions e.0 number → new.individuals ≡ old.individuals → PutsLastAt old new (Expr e) number
puts_expression old new e number puts same (Expr d) = ⊎_elim
    (λ w. inl ((λ (p : Expr d ≡ Expr e). w.0 (let q = p in cc)), w.1))
    (λ w. inr (ap (λ v. Expr (record { 0 = v })) w.0, w.1))
    (puts d.0)
puts_expression old new e number puts same (Individual d) = inl ((λ (p : Individual d ≡ Expr e). cc), ap (λ (t : List (List ℕ)). at t d.0) same)

pub puts_individual : (old new : ByContext) (a : IndId) (number : ℕ) → PutsLast old.individuals new.individuals a.0 number → new.expressions ≡ old.expressions → PutsLastAt old new (Individual a) number
puts_individual old new a number puts same (Individual d) = ⊎_elim
    (λ w. inl ((λ (p : Individual d ≡ Individual a). w.0 (let q = p in cc)), w.1))
    (λ w. inr (ap (λ v. Individual (record { 0 = v })) w.0, w.1))
    (puts d.0)
puts_individual old new a number puts same (Expr d) = inl ((λ (p : Expr d ≡ Individual a). cc), ap (λ (t : List (List ℕ)). at t d.0) same)

-- the number is the last already
pub adds_last : (table : ByContext) (x : Context) (number : ℕ) → IsLast (at_context table x) number → AddsAt table table x number
adds_last table x number last y n = (
  λ c. inl c,
  λ w. ⊎_elim
      (λ (c : Contains (at_context table y) n). c)
      (λ (e : (y ≡ x) × (n ≡ number)). subst (λ (i : ℕ). Contains (at_context table y) i) (sym e.1) (subst (λ (z : Context). Contains (at_context table z) number) (sym e.0) (rw (last.1) (Contains-push last.0 number))))
      w,
)

-- it is not, and is put there
pub ends_here : (old new : ByContext) (x : Context) (number : ℕ) → PutsLastAt old new x number → (IsLast (at_context old x) number → ⊥) → EndsAt old new x number
ends_here old new x number puts other y = ⊎_elim
    (λ w. inl w.1)
    (λ w. inr (w.0, (λ last. other (subst (λ (z : Context). IsLast (at_context old z) number) w.0 last)), w.1))
    (puts y)

pub unlisted : (has : Context → Fact → Type 0) (table : ByContext) (number : ℕ) (fact : Fact) → MayListIn has table table number fact
unlisted has table number fact = record { kept = λ x n c. c; only = λ x n c. inl c; last = λ x. inl refl }

pub tried : (has : Context → Fact → Type 0) (old new : ByContext) (number : ℕ) (fact : Fact) → IsSameAt old new → MayListIn has old new number fact
tried has old new number fact same = record { kept = λ x n c. rw (same x) c; only = λ x n c. inl (rw (same x) at c); last = λ x. inl (same x) }

pub listed : (has : Context → Fact → Type 0) (old new : ByContext) (x : Context) (number : ℕ) (fact : Fact) → AddsAt old new x number → EndsAt old new x number → has x fact → MayListIn has old new number fact
listed has old new x number fact adds ends h = record {
  kept = λ y n c. (adds y n).1 (inl c);
  only = λ y n c. ⊎_elim (λ w. inl w) (λ w. inr (subst (λ (z : Context). has z fact) (sym w.0) h, w.1)) ((adds y n).0 c);
  last = λ y. ⊎_elim (λ w. inl w) (λ w. inr (subst (λ (z : Context). has z fact) (sym w.0) h, w.1, w.2)) (ends y);
}

pub here : (old new : ByContext) (x : Context) (number : ℕ) → AddsAt old new x number → (y : Context) → x ≡ y → Contains (at_context new y) number
here old new x number adds y e = (adds y number).1 (inr (sym e, refl))

-- ---- the last number of a list

pub is_last_from : (list : List ℕ) (number k : ℕ) → length list ≡ k + 1 → get_or list k 0 ≡ number → IsLast list number
is_last_from [] number k long e = absurd (omega (arith, long))
is_last_from (x ∷ []) number zero long e = ([], ap (λ (y : ℕ). y ∷ []) e)
is_last_from (x ∷ []) number (suc k) long e = absurd (omega (arith, long))
is_last_from (x ∷ y ∷ list) number zero long e = absurd (omega (arith, long))
is_last_from (x ∷ y ∷ list) number (suc k) long e = (let r = is_last_from (y ∷ list) number k (omega (arith, long)) e in (x ∷ r.0, ap (λ (zs : List ℕ). x ∷ zs) r.1))

pub last_is : (list : List ℕ) (number k : ℕ) → length list ≡ k + 1 → IsLast list number → get_or list k 0 ≡ number
last_is list number k long last = ap (λ (l : List ℕ). get_or l k 0) last.1 ∙ get_or_push last.0 number 0 k (omega (arith, long, ap length last.1, length_push last.0 number))

pub last_has : (list : List ℕ) (number : ℕ) → IsLast list number → 0 < length list
last_has list number last = omega (arith, ap length last.1, length_push last.0 number)
