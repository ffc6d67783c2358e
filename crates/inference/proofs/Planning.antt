-- Plans of chains: what is in them, how they grow, and what is drawn from them.
use Rattle.std.proofs.Common.{IsTrue, ◌↔◌, ◌≡◌, ℕ, ◌==◌, Bool, true, false, if◌then◌else◌, inl, inr, List, [], ◌∷◌, ◌++◌, take, get_or, length, ◌<◌, ◌+◌, slice_get, Some, Contains, refl, sym, ap, ◌∙◌, subst, true≢false, eq-eqb, eqb-true, arith}
use Rattle.std.proofs.lemmas.List.Elements.{Contains-push, Contains-push_cases, Contains-append_left, Contains-append_right}
use Rattle.std.proofs.lemmas.List.{length_push}
use Rattle.std.proofs.lemmas.Option.{none-some}
use Rattle.normal_forms.specs.declared.forms.Form.{Form}
use Rattle.normal_forms.specs.declared.forms.Form.TheVariants.{N1, N2, N3, N4, N5, N6, N7, N8, N9, N10, N12}
use Rattle.normal_forms.specs.declared.forms.PropId2.{PropId2}
use Rattle.facts.specs.declared.contexts.Fact.{Fact}
use Rattle.facts.specs.Closure.{Problem}
use Rattle.indexes.specs.declared.keys.Key.{Key}
use Rattle.indexes.specs.FormsUnderKeys.{IsUnder}
use Rattle.indexes.specs.Keys.{by_chain, property_key}
use Rattle.inference.specs.declared.plans.PlannedChain.{PlannedChain}
use Rattle.inference.specs.Completeness.{IsDrawnFrom}
use Rattle.std.specs.Prelude.{bit_and}
use Rattle.normal_forms.specs.declared.forms.PropId2.TheVariants.{Property}
use Rattle.normal_forms.specs.Properties.{IsAtOrBelow}
use Rattle.inference.specs.Marks.{HasAbove, HasBit}
use Rattle.inference.specs.Plans.{ArePlans, has_number, HasChainsFrom, IsPlan, IsPlanDrawn, PlansAlso, SaysItsChain, SayTheirChains}
use Rattle.inference.specs.Visits.{AllChainsDrawn}
use Rattle.inference.proofs.Drawing.{each_more}
use Rattle.inference.proofs.Lists.{slice_get_push_cases}
use Rattle.inference.proofs.Marking.{apart}

-- ---- the numbers of a plan

either : (b x y : Bool) → (x ≡ true → y ≡ true) → (if b then true else x) ≡ true → (if b then true else y) ≡ true
either true x y more e = refl
either false x y more e = more e

at_first : (b x : Bool) → b ≡ true → (if b then true else x) ≡ true
at_first true x e = refl
at_first false x e = absurd (true≢false (sym e))

behind_first : (b x : Bool) → x ≡ true → (if b then true else x) ≡ true
behind_first true x e = refl
behind_first false x e = e

pub has_still : (plan more : List PlannedChain) (n : ℕ) → has_number plan n ≡ true → has_number (plan ++ more) n ≡ true
has_still [] more n e = absurd (true≢false (sym e))
has_still (c ∷ plan) more n e = either (c.number == n) (has_number plan n) (has_number (plan ++ more) n) (has_still plan more n) e

pub has_last : (plan : List PlannedChain) (c : PlannedChain) → has_number (plan ++ c ∷ []) c.number ≡ true
has_last [] c = at_first (c.number == c.number) false (eq-eqb c.number c.number refl)
has_last (d ∷ plan) c = behind_first (d.number == c.number) (has_number (plan ++ c ∷ []) c.number) (has_last plan c)

-- a chain of the plan has the number
abbrev pub Has : List PlannedChain → ℕ → Type 0
Has plan n = (c : PlannedChain) × Contains plan c × (c.number ≡ n)

first_or : (c : PlannedChain) (plan : List PlannedChain) (n : ℕ) (b : Bool) → c.number == n ≡ b → (has_number plan n ≡ true → Has plan n) → (if b then true else has_number plan n) ≡ true → Has (c ∷ plan) n
first_or c plan n true is rest e = (c, Contains-append_left (c ∷ []) plan c (Contains-push [] c), eqb-true c.number n is)
first_or c plan n false is rest e = let w = rest e in (w.0, Contains-append_right (c ∷ []) plan w.0 w.1, w.2)

pub chain_of : (plan : List PlannedChain) (n : ℕ) → has_number plan n ≡ true → Has plan n
chain_of [] n e = absurd (true≢false (sym e))
chain_of (c ∷ plan) n e = first_or c plan n (c.number == n) refl (chain_of plan n) e

-- ---- how a plan grows

pub says_more : (forms : List Form) (plan : List PlannedChain) (c : PlannedChain) → SaysItsChain forms c → SayTheirChains forms plan → SayTheirChains forms (plan ++ c ∷ [])
says_more forms plan c says say d there = elim (Contains-push_cases plan c d there) [
  | inl w ↦ say d w
  | inr e ↦ subst (SaysItsChain forms) e says
]

pub also_one : (forms : List Form) (plan : List PlannedChain) (c : PlannedChain) → SaysItsChain forms c → PlansAlso forms (λ n. n ≡ c.number) plan (plan ++ c ∷ [])
also_one forms plan c says = record {
  say = says_more forms plan c says;
  keeps = has_still plan (c ∷ []);
  has = λ n is r s t at. subst (λ (m : ℕ). has_number (plan ++ c ∷ []) m ≡ true) (sym is) (has_last plan c);
}

-- those of the numbers so far, and of the next
pub also_more : (forms : List Form) (numbers : List ℕ) (i : ℕ) (old middle new : List PlannedChain) → i < length numbers → PlansAlso forms (Contains (take i numbers)) old middle
    → PlansAlso forms (λ n. n ≡ get_or numbers i 0) middle new → PlansAlso forms (Contains (take (i + 1) numbers)) old new
also_more forms numbers i old middle new low before here =
    let P : List PlannedChain → ℕ → Type 0 = λ plan n. (r s t : PropId2) → slice_get forms n ≡ Some (N6 r s t) → has_number plan n ≡ true in
    record {
      say = λ say. here.say (before.say say);
      keeps = λ n has. here.keeps n (before.keeps n has);
      has = each_more (P middle) (P new) numbers numbers i 0 refl low before.has (λ n has r s t at. here.keeps n (has r s t at)) (here.has _ refl);
    }

is_chain : (form : Form) (key : Key) → by_chain form ≡ Some key → (r s t : PropId2) × (form ≡ N6 r s t)
is_chain (N1 _ _) key e = absurd (none-some key e)
is_chain (N2 _ _ _) key e = absurd (none-some key e)
is_chain (N3 _ _ _) key e = absurd (none-some key e)
is_chain (N4 _ _ _) key e = absurd (none-some key e)
is_chain (N5 _ _) key e = absurd (none-some key e)
is_chain (N6 r s t) key e = (r, s, t, refl)
is_chain (N7 _) key e = absurd (none-some key e)
is_chain (N8 _ _) key e = absurd (none-some key e)
is_chain (N9 _ _ _) key e = absurd (none-some key e)
is_chain (N10 _ _) key e = absurd (none-some key e)
is_chain (N12 _ _ _) key e = absurd (none-some key e)

-- the chains that begin with r are there, where a plan grew by those of these numbers
pub has_these : (forms : List Form) (numbers : List ℕ) (r : PropId2) (old new : List PlannedChain) → ((n : ℕ) → IsUnder by_chain forms (property_key r) n → Contains numbers n)
    → PlansAlso forms (Contains numbers) old new → HasChainsFrom forms new r
has_these forms numbers r old new listed also n under =
    let w = is_chain under.0 (property_key r) under.2 in
    also.has n (listed n under) w.0 w.1 w.2 (under.1 ∙ ap Some w.3)

pub from_still : (forms : List Form) (P : ℕ → Type 0) (old new : List PlannedChain) (r : PropId2) → PlansAlso forms P old new → HasChainsFrom forms old r → HasChainsFrom forms new r
from_still forms P old new r also has n under = also.keeps n (has n under)

-- one plan more
pub plans_more : (forms : List Form) (old new : List (List PlannedChain)) (plan : List PlannedChain) (place : ℕ) → new ≡ old ++ plan ∷ [] → length old ≡ place → ArePlans forms old
    → IsPlan forms (Property (record { 0 = place })) plan → ArePlans forms new × (length new ≡ place + 1)
plans_more forms old new plan place is long are here = (
  λ n p there. elim (slice_get_push_cases old plan n p (rw is at there)) [
    | inl w ↦ are n p w
    | inr w ↦ subst (λ (q : List PlannedChain). IsPlan forms (Property (record { 0 = n })) q) w.1 (subst (λ (j : ℕ). IsPlan forms (Property (record { 0 = j })) plan) (sym (w.0 ∙ long)) here)
  ],
  omega (arith, ap length is, length_push old plan, long),
)

-- ---- what is drawn from a plan

-- where the bit of a property is not there, it is not at or above that of the mask
pub not_above : (forms : List Form) (mask bit : ℕ) (q s : PropId2) → bit_and mask bit ≡ 0 → HasAbove forms mask q → HasBit bit s → IsTrue false ↔ IsAtOrBelow forms q s
not_above forms mask bit q s none above has = (λ no. absurd (true≢false (sym no)), λ below. absurd (apart mask bit s none (above s below) has))

pub plan_drawn : (k : Problem) (older facts : List Fact) (p : PropId2) (plan : List PlannedChain) → IsPlan k.forms p plan → IsPlanDrawn k older facts plan → AllChainsDrawn k older facts p
plan_drawn k older facts p plan is drawn r above n under =
    let w = chain_of plan n (is.has r above n under) in
    subst (IsDrawnFrom k older facts) w.2 (drawn w.0 w.1)
