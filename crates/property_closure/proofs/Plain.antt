-- What plain forms put above a property is what their lists lead to.
use Rattle.std.proofs.Common.{◌≡◌, ◌↔◌, ℕ, ◌+◌, ◌<◌, inl, inr, List, [], ◌∷◌, ◌++◌, length, get_or, map, take, Contains, refl, sym, ap, ap₂, ◌∙◌, subst, arith}
use Rattle.std.specs.List.{AllPairs}
use Rattle.std.specs.Prelude.{slice_set}
use Rattle.std.specs.declared.cmp.Ordering.TheVariants.{Less}
use Rattle.std.specs.Ordering.{nat_cmp}
use Rattle.std.proofs.lemmas.Cmp.{ranked}
use Rattle.std.proofs.lemmas.Option.{slice_get_within, get_or_from_slice_get}
use Rattle.lemmas.proofs.Mapped.{Contains-map, slice_get_map_from}
use Rattle.lemmas.proofs.Members.{Contains-first, Contains-one, Contains-from_slice_get, slice_get-from_Contains}
use Rattle.lemmas.proofs.Pairs.{AllPairs-map}
use Rattle.axioms.specs.declared.ids.PropId.{PropId}
use Rattle.normal_forms.specs.declared.forms.PropId2.{PropId2}
use Rattle.normal_forms.specs.declared.forms.Form.{Form}
use Rattle.normal_forms.specs.declared.forms.Form.TheVariants.{N5}
use Rattle.normal_forms.specs.Properties.{ComesBefore, IsAtOrBelow, same, step}
use Rattle.number_sets.specs.Pieces.{list_at}
use Rattle.number_sets.specs.Search.{LeadsTo, itself, onward, IsBounded, AreFound}
use Rattle.property_closure.specs.Relations.{as_id, as_property, Tells, ArePlainWithin, IsAdjacency, AreAbove}
use Rattle.number_sets.proofs.Members.{one_more_item, one_more_taken}
use Rattle.number_sets.proofs.Searching.{led}
use Rattle.property_closure.proofs.Reflexives.{number_of}

-- ---- lists of what forms tell

sub_of : Form → ℕ
sub_of (N5 r s) = r.0
sub_of _ = 0

super_of : Form → ℕ
super_of (N5 r s) = s.0
super_of _ = 0

pub same_parts : (a b c d : PropId) → N5 a b ≡ N5 c d → (c.0 ≡ a.0) × (d.0 ≡ b.0)
unfolding sub_of super_of
same_parts a b c d e = (sym (ap sub_of e), sym (ap super_of e))

-- one plain form more
pub told_more : (forms : List Form) (k : ℕ) (form : Form) (r s : PropId) (lists : List (List ℕ)) → k < length forms → get_or forms k form ≡ N5 r s → r.0 < length lists
    → ((a b : ℕ) → Contains (list_at lists a) b ↔ Tells (take k forms) a b)
    → (a b : ℕ) → Contains (list_at (slice_set lists r.0 (list_at lists r.0 ++ s.0 ∷ [])) a) b ↔ Tells (take (k + 1) forms) a b
told_more forms k form r s lists low is within before a b = (
  λ c. (one_more_taken forms k form (N5 (as_id a) (as_id b)) low).1 (elim ((one_more_item lists r.0 s.0 a b within).0 c) [
    | inl v ↦ inl ((before a b).0 v)
    | inr v ↦ inr (is ∙ ap₂ (λ x y. N5 (as_id x) (as_id y)) (sym v.0) (sym v.1))
  ]),
  λ t. (one_more_item lists r.0 s.0 a b within).1 (elim ((one_more_taken forms k form (N5 (as_id a) (as_id b)) low).0 t) [
    | inl v ↦ inl ((before a b).1 v)
    | inr e ↦ inr (same_parts r s (as_id a) (as_id b) (sym is ∙ e))
  ]),
)

-- another form more
pub told_same : (forms : List Form) (k : ℕ) (form : Form) (lists : List (List ℕ)) → k < length forms → ((r s : PropId) → get_or forms k form ≡ N5 r s → ⊥)
    → ((a b : ℕ) → Contains (list_at lists a) b ↔ Tells (take k forms) a b)
    → (a b : ℕ) → Contains (list_at lists a) b ↔ Tells (take (k + 1) forms) a b
told_same forms k form lists low other before a b = (
  λ c. (one_more_taken forms k form (N5 (as_id a) (as_id b)) low).1 (inl ((before a b).0 c)),
  λ t. elim ((one_more_taken forms k form (N5 (as_id a) (as_id b)) low).0 t) [
    | inl v ↦ (before a b).1 v
    | inr e ↦ absurd (other (as_id a) (as_id b) e)
  ],
)

-- ---- what they lead to

pub bounded : (n : ℕ) (forms : List Form) (lists : List (List ℕ)) → ArePlainWithin n forms → IsAdjacency n forms lists → IsBounded (λ m. m) lists
bounded n forms lists within told b d c = omega (arith, (within b d ((told.exact b d).0 c)).1, told.long)

-- d is c, or the lists lead from c to d
abbrev Leads : List (List ℕ) → ℕ → ℕ → Type 0
Leads lists c d = LeadsTo (λ (m : ℕ). m) (λ (m : ℕ). m) (c ∷ []) lists d

lifts : (n : ℕ) (forms : List Form) (lists : List (List ℕ)) → IsAdjacency n forms lists → (c d : ℕ) → Leads lists c d → IsAtOrBelow forms (as_property c) (as_property d)
lifts n forms lists told c _ (itself x h) = subst (λ y. IsAtOrBelow forms (as_property c) (as_property y)) (Contains-one c x h) same
lifts n forms lists told c _ (onward b d h t) = step (as_id b) (as_id d) (lifts n forms lists told c b h) ((told.exact b d).0 t)

-- what is above a property is a property, and the lists lead there
pub below_leads : (n : ℕ) (forms : List Form) (lists : List (List ℕ)) → IsAdjacency n forms lists → (c : ℕ) (q : PropId2) → IsAtOrBelow forms (as_property c) q → (d : ℕ) × (q ≡ as_property d) × Leads lists c d
unfolding number_of
below_leads n forms lists told c _ same = (c, refl, itself c (Contains-first c []))
below_leads n forms lists told c _ (step s t h f) =
    let p = below_leads n forms lists told c _ h in
    let e : s.0 ≡ p.0 = ap number_of p.1 in
    (t.0, refl, onward s.0 t.0 (subst (Leads lists c) (sym e) p.2) ((told.exact s.0 t.0).1 f))

less : (x y : ℕ) → nat_cmp x y ≡ Less → x < y
less x y e = ranked x y Less (sym e)

-- the numbers found, in order, as properties
pub above : (n : ℕ) (forms : List Form) (lists : List (List ℕ)) (p : ℕ) (found sorted : List ℕ) (list : List PropId2) → IsAdjacency n forms lists → AreFound (λ (m : ℕ). m) (λ (m : ℕ). m) (λ (m place : ℕ). m) (p ∷ []) lists found
    → AllPairs (λ x y. nat_cmp x y ≡ Less) sorted → ((x : ℕ) → Contains sorted x ↔ Contains found x) → list ≡ map as_property sorted → AreAbove forms (as_property p) list
above n forms lists p found sorted list told reached up like is = record {
  ascending = subst (AllPairs ComesBefore) (sym is) (AllPairs-map ComesBefore as_property sorted (λ i j x y l gx gy.
      less x y (subst (λ z. nat_cmp z y ≡ Less) (get_or_from_slice_get sorted i x y gx) (subst (λ z. nat_cmp (get_or sorted i y) z ≡ Less) (get_or_from_slice_get sorted j y y gy) (up i j y l (slice_get_within sorted j y gy))))));
  exact = λ q. (
    λ c.
        let at = slice_get-from_Contains (map as_property sorted) q (subst (λ (l : List PropId2). Contains l q) is c) in
        let from = slice_get_map_from as_property sorted at.0 q at.1 in
        let there = slice_get-from_Contains found from.0 ((like from.0).0 (Contains-from_slice_get sorted at.0 from.0 from.1)) in
        subst (IsAtOrBelow forms (as_property p)) from.2 (lifts n forms lists told p from.0 (led (λ (m : ℕ). m) (λ (m : ℕ). m) (λ (m place : ℕ). m) (p ∷ []) lists (λ m place. refl) found reached.ways there.0 from.0 there.1)),
    λ h.
        let up_there = below_leads n forms lists told p q h in
        let (place, (x, at, e)) = reached.all up_there.0 up_there.2 in
        let there : Contains found up_there.0 = subst (Contains found) e (Contains-from_slice_get found place x at) in
        subst (λ (l : List PropId2). Contains l q) (sym is) (subst (Contains (map as_property sorted)) (sym up_there.1) (Contains-map as_property sorted up_there.0 ((like up_there.0).1 there))),
  );
}
