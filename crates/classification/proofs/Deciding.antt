-- What a list of facts decides.
use Rattle.std.proofs.Common.{◌≡◌, ◌↔◌, ℕ, zero, suc, ◌⊎◌, inl, inr, ⊎_elim, Bool, true, false, List, [], ◌∷◌, slice_get, Some, refl, sym, ap, ◌∙◌, subst}
use Rattle.std.proofs.lemmas.Bool.{cases_eq}
use Rattle.std.proofs.lemmas.Option.{none-some, same_Some}
use Rattle.axioms.specs.declared.ids.ExprId.{ExprId}
use Rattle.axioms.specs.declared.ids.IndId.{IndId}
use Rattle.axioms.specs.declared.ids.PropId.{PropId}
use Rattle.facts.specs.declared.contexts.Context.{Context}
use Rattle.facts.specs.declared.contexts.Context.TheVariants.{Expr, Individual}
use Rattle.facts.specs.declared.contexts.Fact.{Fact}
use Rattle.facts.specs.declared.contexts.Fact.TheVariants.{In, Edge}
use Rattle.normal_forms.specs.declared.forms.Class2.TheVariants as classes
use Rattle.normal_forms.specs.declared.forms.Form.{Form}
use Rattle.normal_forms.specs.declared.forms.Form.TheVariants.{N5}

abbrev pub Decided : Type 0 → Type 0
Decided P = P ⊎ (P → ⊥)

abbrev pub is_yes : {P : Type 0} → Decided P → Bool
is_yes (inl p) = true
is_yes (inr n) = false

pub tells : {P : Type 0} (d : Decided P) → (is_yes d ≡ true) ↔ P
tells (inl p) = (λ e. p, λ q. refl)
tells (inr n) = (λ e. absurd (cc), λ q. absurd (n q))

-- some element of the list has the property
abbrev pub SomeOf : {A : Type 0} → List A → (A → Type 0) → Type 0
SomeOf {A} xs P = (n : ℕ) × (x : A) × (slice_get xs n ≡ Some x) × P x

pub some_of : {A : Type 0} (P : A → Type 0) → ((x : A) → Decided (P x)) → (xs : List A) → Decided (SomeOf xs P)
some_of P d [] = inr (λ w. none-some w.1 w.2)
some_of {A} P d (x ∷ xs) = go (d x) (some_of P d xs)
  where
    split : (P x → ⊥) → (SomeOf xs P → ⊥) → (n : ℕ) (y : A) → slice_get (x ∷ xs) n ≡ Some y → P y → ⊥
    split first rest zero y e p = first (subst P (sym (same_Some x y e)) p)
    split first rest (suc m) y e p = rest (m, y, e, p)

    go : Decided (P x) → Decided (SomeOf xs P) → Decided (SomeOf (x ∷ xs) P)
    go (inl p) rest = inl (0, x, refl, p)
    go (inr first) (inl w) = inl (suc w.0, w.1, w.2, w.3)
    go (inr first) (inr rest) = inr (λ w. split first rest w.0 w.1 w.2 w.3)

-- ---- equal contexts and facts

abbrev expr_id : ℕ → ExprId
expr_id n = record { 0 = n }

abbrev ind_id : ℕ → IndId
ind_id n = record { 0 = n }

pub same_context : (x y : Context) → Decided (x ≡ y)
same_context (Expr e) (Expr f) = ⊎_elim (λ h. inl (ap (λ n. Expr (expr_id n)) h)) (λ n. inr (λ h. n (cc))) (cases_eq e.0 f.0)
same_context (Expr e) (Individual b) = inr (λ h. absurd (cc))
same_context (Individual a) (Expr f) = inr (λ h. absurd (cc))
same_context (Individual a) (Individual b) = ⊎_elim (λ h. inl (ap (λ n. Individual (ind_id n)) h)) (λ n. inr (λ h. n (cc))) (cases_eq a.0 b.0)

-- the fact is of the class and the context
pub is_in : (e : ExprId) (x : Context) (f : Fact) → Decided (f ≡ In (classes.Expr e) x)
is_in e x (In (classes.Expr d) y) = go (cases_eq d.0 e.0) (same_context y x)
  where
    go : Decided (d.0 ≡ e.0) → Decided (y ≡ x) → Decided (In (classes.Expr d) y ≡ In (classes.Expr e) x)
    go (inl h) (inl k) = inl (ap (λ n. In (classes.Expr (expr_id n)) y) h ∙ ap (In (classes.Expr e)) k)
    go (inl h) (inr n) = inr (λ k. n (cc))
    go (inr n) k = inr (λ h. n (cc))
is_in e x (In (classes.Partial n) y) = inr (λ h. absurd (cc))
is_in e x (Edge y r z) = inr (λ h. absurd (cc))

-- ---- paths of plain property forms

-- the form leads from a number that has the one property to one that has the other
abbrev Via : Form → (ℕ → Type 0) → (ℕ → Type 0) → Type 0
Via (N5 s t) P Q = P s.0 × Q t.0
Via _ P Q = ⊥

-- the forms lead from p to q
abbrev pub Reach : List Form → ℕ → ℕ → Type 0
Reach [] p q = p ≡ q
Reach (f ∷ fs) p q = Reach fs p q ⊎ Via f (λ s. Reach fs p s) (λ t. Reach fs t q)

via : (f : Form) {P Q : ℕ → Type 0} → ((n : ℕ) → Decided (P n)) → ((n : ℕ) → Decided (Q n)) → Decided (Via f P Q)
via (N5 s t) p q = ⊎_elim (λ h. ⊎_elim (λ k. inl (h, k)) (λ n. inr (λ w. n w.1)) (q t.0)) (λ n. inr (λ w. n w.0)) (p s.0)
via _ p q = inr (λ w. w)

pub reach : (fs : List Form) (p q : ℕ) → Decided (Reach fs p q)
reach [] p q = cases_eq p q
reach (f ∷ fs) p q = ⊎_elim
    (λ h. inl (inl h))
    (λ n. ⊎_elim (λ w. inl (inr w)) (λ m. inr (λ h. ⊎_elim n m h)) (via f (λ s. reach fs p s) (λ t. reach fs t q)))
    (reach fs p q)

pub reach_same : (fs : List Form) (p : ℕ) → Reach fs p p
reach_same [] p = refl
reach_same (f ∷ fs) p = inl (reach_same fs p)

via_more : (f : Form) (P Q R : ℕ → Type 0) → ((n : ℕ) → Q n → R n) → Via f P Q → Via f P R
via_more (N5 s t) P Q R h w = (w.0, h t.0 w.1)
via_more _ P Q R h w = w

-- where one of the forms puts s below t, and s is reached, t is reached too
pub reach_on : (fs : List Form) (s t : PropId) (n p : ℕ) → slice_get fs n ≡ Some (N5 s t) → Reach fs p s.0 → Reach fs p t.0
reach_on [] s t n p at h = absurd (none-some (N5 s t) at)
reach_on (f ∷ fs) s t zero p at h =
    let same : f ≡ N5 s t = same_Some f (N5 s t) at in
    subst (λ g. Reach (g ∷ fs) p t.0) (sym same) (go (subst (λ g. Reach (g ∷ fs) p s.0) same h))
  where
    go : Reach (N5 s t ∷ fs) p s.0 → Reach (N5 s t ∷ fs) p t.0
    go (inl k) = inr (k, reach_same fs t.0)
    go (inr w) = inr (w.0, reach_same fs t.0)
reach_on (f ∷ fs) s t (suc n) p at h =
    ⊎_elim (λ k. inl (reach_on fs s t n p at k)) (λ w. inr (via_more f (λ u. Reach fs p u) (λ u. Reach fs u s.0) (λ u. Reach fs u t.0) (λ u k. reach_on fs s t n u at k) w)) h
