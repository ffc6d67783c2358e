-- Marks of facts and masks of properties: that they stay right, and what they tell.
use Rattle.std.proofs.Common.{◌≡◌, ℕ, Bool, true, false, eqb-true, not, nat_eq, ◌*◌, ◌^◌, ◌<◌, ◌%◌, ⊎_elim, List, [], ◌∷◌, ◌++◌, ◌+◌, length, slice_get, take, Some, None, Option, refl, sym, ap, subst, true≢false, ◌∙◌, arith}
use Rattle.std.proofs.lemmas.Nat.Bits.{bit_at_and, bit_at_or, bit_at-zero, bit_at_ones, bit_at-lt, bit_at-pow_same}
use Rattle.std.proofs.Math.Pow.{pow-lt}
use Rattle.std.proofs.lemmas.List.{length_push}
use Rattle.std.specs.Prelude.{bit_and, bit_or}
use Rattle.std.specs.Int.{bit_at}
use Rattle.normal_forms.specs.declared.forms.Form.{Form}
use Rattle.normal_forms.specs.declared.forms.Form.TheVariants.{N1, N2, N3, N4, N5, N6, N7, N8, N9, N10, N12}
use Rattle.normal_forms.specs.declared.forms.PropId2.{PropId2}
use Rattle.normal_forms.specs.declared.forms.PropId2.TheVariants.{Property, Partial}
use Rattle.axioms.specs.declared.ids.PropId.{PropId}
use Rattle.normal_forms.specs.declared.forms.Class2.{Class2}
use Rattle.normal_forms.specs.Properties.{IsAtOrBelow}
use Rattle.normal_forms.specs.Properties as properties
use Rattle.facts.specs.declared.contexts.Context.{Context}
use Rattle.facts.specs.declared.contexts.Fact.{Fact}
use Rattle.facts.specs.declared.contexts.Fact.TheVariants.{In, Edge}
use Rattle.facts.specs.Closure.{Problem, FromTwo}
use Rattle.inference.specs.Derivations.{Keeps}
use Rattle.inference.specs.Visits.{GiveNothing, IsBy, IsEdge}
use Rattle.inference.specs.Marks.{AreMarks, bit_of, HasBit, HasSeconds, HasEnds, HasAbove, HasFilled, HasSecondsOf, HasEndsOf, HasAboveOf, HasFilledOf}
use Rattle.inference.proofs.Giving.{by_form_or_back}
use Rattle.lemmas.proofs.Places.{take_slice_get}
use Rattle.inference.proofs.Lists.{slice_get_push_cases, slice_get_take}

-- ---- marks

pub marks_of_more : (facts more : List Fact) (marks : List ℕ) → Keeps facts more → AreMarks facts marks → AreMarks more marks
marks_of_more facts more marks keeps are n mark at = let o = are n mark at in (o.0, keeps n o.0 o.1, o.2)

-- the first so many facts and marks
pub marks_of_first : (facts : List Fact) (marks : List ℕ) (len : ℕ) → AreMarks facts marks → AreMarks (take len facts) (take len marks)
marks_of_first facts marks len are n mark at =
    let there = slice_get_take len marks n mark at in
    let fact = are n mark there.1 in
    (fact.0, take_slice_get len facts n fact.0 there.0 fact.1, fact.2)

-- ---- masks

bit_low : (s : PropId2) → bit_of s < 64
bit_low (Property p) = omega arith
bit_low (Partial n) = omega arith

pub bit_alone : (s : PropId2) (k : ℕ) → k ≡ bit_of s → HasBit (1 * 2 ^ k % 18446744073709551616) s
bit_alone s k same =
    let small : k < 64 = omega (arith, same, bit_low s) in
    let low : 2 ^ k < 2 ^ 64 = pow-lt small in
    let here : 1 * 2 ^ k % 18446744073709551616 ≡ 2 ^ k = omega (arith, low) in
    rw (here, same) (bit_at-pow_same (bit_of s))

pub all_bits : (s : PropId2) → HasBit 18446744073709551615 s
all_bits s = bit_at_ones 64 (bit_of s) (bit_low s)

pub bit_left : (a b : ℕ) (s : PropId2) → HasBit a s → HasBit (bit_or a b) s
bit_left a b s has = omega (arith, bit_at_or a b (bit_of s), bit_at-lt b (bit_of s), has)

pub bit_right : (a b : ℕ) (s : PropId2) → HasBit b s → HasBit (bit_or a b) s
bit_right a b s has = omega (arith, bit_at_or a b (bit_of s), bit_at-lt a (bit_of s), has)

pub apart : (a b : ℕ) (s : PropId2) → bit_and a b ≡ 0 → HasBit a s → HasBit b s → ⊥
apart a b s none here there =
    let both = bit_at_and a b (bit_of s) in
    let zero = ap (λ x. bit_at x (bit_of s)) none ∙ bit_at-zero (bit_of s) in
    absurd (omega (arith, both, zero, here, there))

-- what holds of each mask, and of all bits, holds of what is read
pub told : (P : ℕ → Type 0) (o : Option ℕ) (read : ℕ) → ((mask : ℕ) → o ≡ Some mask → read ≡ mask) → (o ≡ None → read ≡ 18446744073709551615) → ((mask : ℕ) → o ≡ Some mask → P mask) → P 18446744073709551615 → P read
told P (Some mask) read there none each all = subst P (sym (there mask refl)) (each mask refl)
told P None read there none each all = subst P (sym (none refl)) all

pub masks_more : (P : ℕ → ℕ → Type 0) (old new : List ℕ) (mask place : ℕ) → new ≡ old ++ mask ∷ [] → length old ≡ place → ((n m : ℕ) → slice_get old n ≡ Some m → P n m) → P place mask
    → ((n m : ℕ) → slice_get new n ≡ Some m → P n m) × (length new ≡ place + 1)
masks_more P old new mask place is long each here = (
  λ n m there. ⊎_elim
      (λ w. each n m w)
      (λ w. subst (λ (x : ℕ). P n x) w.1 (subst (λ (j : ℕ). P j mask) (sym (w.0 ∙ long)) here))
      (slice_get_push_cases old mask n m (rw is at there)),
  omega (arith, ap length is, length_push old mask, long),
)

-- ---- edges that no chain joins

joined : (k : Problem) (form : Form) (x y z v : Context) (p q : PropId2) (h : Fact) → FromTwo k form (Edge x p y) (Edge z q v) h
    → (r s t : PropId2) × (form ≡ N6 r s t) × IsAtOrBelow k.forms p r × IsAtOrBelow k.forms q s
joined k (N1 _ _) x y z v p q h w = absurd w
joined k (N2 _ _ _) x y z v p q h w = absurd w
joined k (N3 _ _ _) x y z v p q h w = absurd w
joined k (N4 _ _ _) x y z v p q h w = absurd w
joined k (N5 _ _) x y z v p q h w = absurd w
joined k (N6 r s t) x y z v p q h w = (r, s, t, refl, w.0, w.1)
joined k (N7 _) x y z v p q h w = absurd w
joined k (N8 _ _) x y z v p q h w = absurd w
joined k (N9 _ _ _) x y z v p q h w = absurd w
joined k (N10 _ _) x y z v p q h w = absurd w
joined k (N12 _ _ _) x y z v p q h w = absurd w

not_joined : (k : Problem) (seconds ends : ℕ) (f g : Fact) → ((s : PropId2) → HasBit seconds s → HasBit ends s → ⊥) → HasSecondsOf k.forms seconds f → HasEndsOf k.forms ends g → GiveNothing k f g
not_joined k seconds ends (In a x) g never has may = absurd has
not_joined k seconds ends (Edge x p y) (In b z) never has may = absurd may
not_joined k seconds ends (Edge x p y) (Edge z q v) never has may = by_form_or_back k (Edge x p y) (Edge z q v) tt
    (λ n form h at w.
    let j = joined k form x y z v p q h w in
    let chain : slice_get k.forms n ≡ Some (N6 j.0 j.1 j.2) = at ∙ ap Some j.3 in
    never j.1
    (has j.0 j.4 n (N6 j.0 j.1 j.2, chain, refl) j.0 j.1 j.2 chain)
    (may j.1 j.5 n (N6 j.0 j.1 j.2, chain, refl)))
    (λ h b. b)

pub seconds_by : (forms : List Form) (mask : ℕ) (p : PropId2) (f : Fact) → HasSeconds forms mask p → IsBy p f → HasSecondsOf forms mask f
seconds_by forms mask p (In a x) has by = absurd by
seconds_by forms mask p (Edge x r y) has by = subst (HasSeconds forms mask) (sym by) has

pub ends_by : (forms : List Form) (mask : ℕ) (p : PropId2) (f : Fact) → HasEnds forms mask p → IsBy p f → HasEndsOf forms mask f
ends_by forms mask p (In a x) has by = absurd by
ends_by forms mask p (Edge x r y) has by = subst (HasEnds forms mask) (sym by) has

pub from_not : (b : Bool) → not b ≡ false → b ≡ true
from_not true e = refl
from_not false e = absurd (true≢false e)

pub edge_by_seconds : (forms : List Form) (mask : ℕ) (f : Fact) → HasSecondsOf forms mask f → IsEdge f
edge_by_seconds forms mask (In a x) has = has
edge_by_seconds forms mask (Edge x r y) has = tt

pub edge_by_ends : (forms : List Form) (mask : ℕ) (f : Fact) → HasEndsOf forms mask f → IsEdge f
edge_by_ends forms mask (In a x) has = has
edge_by_ends forms mask (Edge x r y) has = tt

blank : (x : ℕ) → not (nat_eq x 0) ≡ false → x ≡ 0
blank x e = eqb-true x 0 (from_not (nat_eq x 0) e)

-- what two masks have no bit in common for gives nothing
pub cannot_follow : (k : Problem) (seconds ends : ℕ) (f g : Fact) → not (nat_eq (bit_and ends seconds) 0) ≡ false → HasSecondsOf k.forms seconds f → HasEndsOf k.forms ends g → GiveNothing k f g
cannot_follow k seconds ends f g none = not_joined k seconds ends f g (λ s here there. apart ends seconds s (blank _ none) there here)

pub cannot_lead : (k : Problem) (seconds ends : ℕ) (f g : Fact) → not (nat_eq (bit_and seconds ends) 0) ≡ false → HasSecondsOf k.forms seconds f → HasEndsOf k.forms ends g → GiveNothing k f g
cannot_lead k seconds ends f g none = not_joined k seconds ends f g (λ s here there. apart seconds ends s (blank _ none) here there)

-- ---- classes for which an edge carries nothing

carried : (k : Problem) (form : Form) (x y z : Context) (p : PropId2) (c : Class2) (h : Fact) → FromTwo k form (Edge x p y) (In c z) h
    → (r : PropId) × (b : Class2) × (form ≡ N4 r c b) × IsAtOrBelow k.forms p (Property r)
carried k (N1 _ _) x y z p c h w = absurd w
carried k (N2 _ _ _) x y z p c h w = absurd w
carried k (N3 _ _ _) x y z p c h w = absurd w
carried k (N4 r a b) x y z p c h w = (r, b, ap (λ (d : Class2). N4 r d b) (sym w.1), w.0)
carried k (N5 _ _) x y z p c h w = absurd w
carried k (N6 _ _ _) x y z p c h w = absurd w
carried k (N7 _) x y z p c h w = absurd w
carried k (N8 _ _) x y z p c h w = absurd w
carried k (N9 _ _ _) x y z p c h w = absurd w
carried k (N10 _ _) x y z p c h w = absurd w
carried k (N12 _ _ _) x y z p c h w = absurd w

not_carried : (k : Problem) (above filled : ℕ) (f g : Fact) → ((s : PropId2) → HasBit above s → HasBit filled s → ⊥) → HasAboveOf k.forms above f → HasFilledOf k.forms filled g → GiveNothing k f g
not_carried k above filled (In a x) g never has may = absurd has
not_carried k above filled (Edge x p y) (Edge z q v) never has may = absurd may
not_carried k above filled (Edge x p y) (In c z) never has may = by_form_or_back k (Edge x p y) (In c z) tt
    (λ n form h at w.
    let j = carried k form x y z p c h w in
    let restriction : slice_get k.forms n ≡ Some (N4 j.0 c j.1) = at ∙ ap Some j.2 in
    never (Property j.0)
    (has (Property j.0) j.3)
    (may.restrictions n (N4 j.0 c j.1, restriction, refl) j.0 c j.1 restriction))
    (λ h b. never p (has p properties.same) (may.all b.0 p))

pub above_by : (forms : List Form) (mask : ℕ) (p : PropId2) (f : Fact) → HasAbove forms mask p → IsBy p f → HasAboveOf forms mask f
above_by forms mask p (In a x) has by = absurd by
above_by forms mask p (Edge x r y) has by = subst (HasAbove forms mask) (sym by) has

pub all_filled : (forms : List Form) (c : Class2) → HasFilled forms 18446744073709551615 c
all_filled forms c = record { restrictions = λ n under r a b at. all_bits (Property r); all = λ e p. all_bits p }

-- what two masks have no bit in common for gives nothing
pub cannot_carry : (k : Problem) (above filled : ℕ) (f g : Fact) → not (nat_eq (bit_and above filled) 0) ≡ false → HasAboveOf k.forms above f → HasFilledOf k.forms filled g → GiveNothing k f g
cannot_carry k above filled f g none = not_carried k above filled f g (λ s here there. apart above filled s (blank _ none) here there)
