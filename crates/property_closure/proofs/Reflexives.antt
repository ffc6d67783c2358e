-- The reflexive properties are those above a property that a form says to be so.
use Rattle.std.proofs.Common.{◌≡◌, ◌↔◌, ℕ, ◌+◌, ◌<◌, ◌≤◌, inl, inr, Bool, true, List, length, get_or, take, Contains, sym, ap, ◌∙◌, subst, arith}
use Rattle.std.specs.Prelude.{slice_set}
use Rattle.axioms.specs.declared.ids.PropId.{PropId}
use Rattle.normal_forms.specs.declared.forms.PropId2.{PropId2}
use Rattle.normal_forms.specs.declared.forms.PropId2.TheVariants.{Property, Partial}
use Rattle.normal_forms.specs.declared.forms.Form.{Form}
use Rattle.normal_forms.specs.declared.forms.Form.TheVariants.{N7}
use Rattle.normal_forms.specs.Properties.{IsAtOrBelow, IsReflexive, same, step}
use Rattle.number_sets.specs.Members.{has}
use Rattle.property_closure.specs.Relations.{as_id, as_property, ArePlainWithin, AreAbove, HasPut}
use Rattle.number_sets.proofs.Members.{one_more_taken, all_taken, has_within, has_set_same, has_set_grows, has_set_cases}

-- ---- properties put into a set

-- the number of a property
abbrev pub number_of : PropId2 → ℕ
number_of (Property p) = p.0
number_of (Partial n) = n

pub put_more : (start now : List Bool) (properties : List PropId2) (k : ℕ) (d : PropId2) (id : PropId) → k < length properties → get_or properties k d ≡ Property id → length now ≡ length start
    → HasPut start (take k properties) now → HasPut start (take (k + 1) properties) (slice_set now id.0 true)
put_more start now properties k d id low is long before p l = (
  λ h. elim (has_set_cases now id.0 p h) [
    | inl e ↦ inr ((one_more_taken properties k d (as_property p) low).1 (inr (is ∙ ap as_property (sym e))))
    | inr old ↦ elim ((before p l).0 old) [ inl a ↦ inl a | inr c ↦ inr ((one_more_taken properties k d (as_property p) low).1 (inl c)) ]
  ],
  λ h. elim h [
    | inl a ↦ has_set_grows now id.0 p ((before p l).1 (inl a))
    | inr c ↦ elim ((one_more_taken properties k d (as_property p) low).0 c) [
      | inl v ↦ has_set_grows now id.0 p ((before p l).1 (inr v))
      | inr e ↦
          let here : id.0 ≡ p = ap number_of (sym is ∙ e) in
          subst (λ (x : ℕ). has (slice_set now id.0 true) x ≡ true) here (has_set_same now id.0 (omega (arith, here, long, l)))
    ]
  ],
)

pub put_same : (start now : List Bool) (properties : List PropId2) (k : ℕ) (d : PropId2) → k < length properties → ((id : PropId) → get_or properties k d ≡ Property id → ⊥)
    → HasPut start (take k properties) now → HasPut start (take (k + 1) properties) now
put_same start now properties k d low other before p l = (
  λ h. elim ((before p l).0 h) [ inl a ↦ inl a | inr c ↦ inr ((one_more_taken properties k d (as_property p) low).1 (inl c)) ],
  λ h. elim h [
    | inl a ↦ (before p l).1 (inl a)
    | inr c ↦ elim ((one_more_taken properties k d (as_property p) low).0 c) [
      | inl v ↦ (before p l).1 (inr v)
      | inr e ↦ absurd (other (as_id p) e)
    ]
  ],
)

-- ---- properties declared reflexive

declared_of : Form → ℕ
declared_of (N7 r) = r.0
declared_of _ = 0

same_declared : (a b : PropId) → N7 a ≡ N7 b → a.0 ≡ b.0
unfolding declared_of
same_declared a b e = ap declared_of e

-- the members are the properties above one that the first forms declare reflexive
abbrev pub AreDeclared : List Form → ℕ → List Bool → Type 0
AreDeclared forms k now = (p : ℕ) → (has now p ≡ true) ↔ ((q : ℕ) × Contains (take k forms) (N7 (as_id q)) × IsAtOrBelow forms (as_property q) (as_property p))

up_within : (n : ℕ) (forms : List Form) → ArePlainWithin n forms → (q : ℕ) (r : PropId2) → q < n → IsAtOrBelow forms (as_property q) r → number_of r < n
up_within n forms within q _ l same = l
up_within n forms within q _ l (step s t h f) = (within s.0 t.0 f).1

pub declared_more : (n : ℕ) (forms : List Form) (k : ℕ) (d : Form) (id : PropId) (old new : List Bool) (list : List PropId2) → k < length forms → get_or forms k d ≡ N7 id → ArePlainWithin n forms → id.0 < n → length old ≡ n
    → AreAbove forms (Property id) list → length new ≡ length old → HasPut old list new → AreDeclared forms k old → AreDeclared forms (k + 1) new
declared_more n forms k d id old new list low is plain within wide up long put before p = (
  λ h. elim ((put p (omega (arith, has_within new p h, long))).0 h) [
    | inl a ↦ (let b = (before p).0 a in (b.0, (one_more_taken forms k d (N7 (as_id b.0)) low).1 (inl b.1), b.2))
    | inr c ↦ (id.0, (one_more_taken forms k d (N7 id) low).1 (inr is), (up.exact (as_property p)).0 c)
  ],
  λ h. elim ((one_more_taken forms k d (N7 (as_id h.0)) low).0 h.1) [
    | inl v ↦
        let was = (before p).1 (h.0, v, h.2) in
        (put p (has_within old p was)).1 (inl was)
    | inr e ↦
        let here : id.0 ≡ h.0 = same_declared id (as_id h.0) (sym is ∙ e) in
        let there : IsAtOrBelow forms (Property id) (as_property p) = subst (λ (x : ℕ). IsAtOrBelow forms (as_property x) (as_property p)) (sym here) h.2 in
        (put p (omega (arith, up_within n forms plain id.0 (as_property p) within there, wide))).1 (inr ((up.exact (as_property p)).1 there))
  ],
)

pub declared_same : (forms : List Form) (k : ℕ) (d : Form) (now : List Bool) → k < length forms → ((id : PropId) → get_or forms k d ≡ N7 id → ⊥) → AreDeclared forms k now → AreDeclared forms (k + 1) now
declared_same forms k d now low other before p = (
  λ h. (let b = (before p).0 h in (b.0, (one_more_taken forms k d (N7 (as_id b.0)) low).1 (inl b.1), b.2)),
  λ h. elim ((one_more_taken forms k d (N7 (as_id h.0)) low).0 h.1) [
    | inl v ↦ (before p).1 (h.0, v, h.2)
    | inr e ↦ absurd (other (as_id h.0) e)
  ],
)

pub declared_all : (forms : List Form) (k : ℕ) (now : List Bool) → length forms ≤ k → AreDeclared forms k now → (p : ℕ) → (has now p ≡ true) ↔ IsReflexive forms (as_property p)
declared_all forms k now done each p = (
  λ h. (let b = (each p).0 h in (as_id b.0, (all_taken forms k (N7 (as_id b.0)) done).0 b.1, b.2)),
  λ h. (each p).1 (h.0.0, (all_taken forms k (N7 h.0) done).1 h.1, h.2),
)
