-- Where entries that lead down end.
use Rattle.std.proofs.Common.{◌≡◌, ℕ, zero, suc, ◌+◌, ◌<◌, ◌≤◌, ◌⊎◌, inl, inr, List, [], ◌∷◌, length, set, slice_get, slice_index, Some, refl, sym, ap, ◌∙◌, subst, arith}
use Rattle.std.proofs.lemmas.Bool.{cases_eq}
use Rattle.std.proofs.lemmas.List.{length-set}
use Rattle.std.proofs.lemmas.Option.{same_Some, slice_get_within, slice_get-get_or, get_or_from_slice_get}
use Rattle.lemmas.proofs.Places.{slice_get_there}
use Rattle.axioms.specs.declared.ids.IndId.{IndId}
use Rattle.normal_forms.specs.declared.forms.Form.{Form}
use Rattle.facts.specs.Closure.{AreSame, itself}
use Rattle.facts.proofs.Sameness.{and_then, turned}
use Rattle.indexes.specs.Roots.{LeadDown, IsAlone, Leads, stay, step, IsRootOf, HaveOneRoot, AreEntriesSame, Shortens, Joins}

-- ---- lists

set_same : (xs : List ℕ) (n v : ℕ) → n < length xs → slice_get (set xs n v) n ≡ Some v
set_same [] n v l = absurd (omega arith)
set_same (x ∷ xs) zero v l = refl
set_same (x ∷ xs) (suc n) v l = set_same xs n v (omega arith)

set_other : (xs : List ℕ) (n k v : ℕ) → (k ≡ n → ⊥) → slice_get (set xs n v) k ≡ slice_get xs k
set_other [] n k v ne = refl
set_other (x ∷ xs) zero zero v ne = absurd (ne refl)
set_other (x ∷ xs) zero (suc k) v ne = refl
set_other (x ∷ xs) (suc n) zero v ne = refl
set_other (x ∷ xs) (suc n) (suc k) v ne = set_other xs n k v (λ e. ne (ap suc e))

-- the individual of a number
abbrev pub ind : ℕ → IndId
ind n = record { 0 = n }

-- ---- roots

append : {t : List ℕ} {x y z : ℕ} → Leads t x y → Leads t y z → Leads t x z
append stay q = q
append (step w g p) q = step w g (append p q)

from_root : {t : List ℕ} {x y w : ℕ} → Leads t y w → y ≡ x → slice_get t x ≡ Some x → w ≡ x
from_root stay e r = e
from_root {t} {x} (step y' g l) e r = from_root l (same_Some y' x (sym g ∙ ap (slice_get t) e ∙ r)) r

unique : {t : List ℕ} {x z w : ℕ} → Leads t x z → slice_get t z ≡ Some z → Leads t x w → slice_get t w ≡ Some w → z ≡ w
unique stay r l s = sym (from_root l refl r)
unique (step y g k) r stay s = from_root (step y g k) refl s
unique {t} {x} {z} {w} (step y g k) r (step y' g' l) s = unique k r (subst (λ v. Leads t v w) (same_Some y' y (sym g' ∙ g)) l) s

-- a number has one root alone
pub one_root : {t : List ℕ} {x z w : ℕ} → IsRootOf t x z → IsRootOf t x w → z ≡ w
one_root p q = unique p.leads p.root q.leads q.root

low : {t : List ℕ} {x z : ℕ} → LeadDown t → Leads t x z → z ≤ x
low down stay = omega arith
low {x = x} {z = z} down (step y g l) =
    let a : y ≤ x = down x y g in
    let b : z ≤ y = low down l in
    omega arith

pub root_low : {t : List ℕ} {x z : ℕ} → LeadDown t → IsRootOf t x z → z ≤ x
root_low down r = low down r.leads

same_along : {forms : List Form} {t : List ℕ} {x z : ℕ} → AreEntriesSame forms t → Leads t x z → AreSame forms (ind x) (ind z)
same_along sound stay = itself
same_along {x = x} sound (step y g l) = and_then (sound x y g) (same_along sound l)

pub same_as_root : {forms : List Form} {t : List ℕ} {x z : ℕ} → AreEntriesSame forms t → IsRootOf t x z → AreSame forms (ind x) (ind z)
same_as_root sound r = same_along sound r.leads

pub before : {t : List ℕ} {x y z : ℕ} → slice_get t x ≡ Some y → IsRootOf t y z → IsRootOf t x z
before {y = y} g r = record { leads = step y g r.leads; root = r.root }

pub at_root : {t : List ℕ} {x : ℕ} → slice_get t x ≡ Some x → IsRootOf t x x
at_root g = record { leads = stay; root = g }

-- where a number leads, its entry leads
behind : {t : List ℕ} {x y z : ℕ} → slice_get t x ≡ Some y → Leads t x z → slice_get t z ≡ Some z → Leads t y z
behind {t} {x} {y} g stay r = subst (λ k. Leads t k x) (same_Some x y (sym r ∙ g)) stay
behind {t} {x} {y} {z} g (step w h l) r = subst (λ k. Leads t k z) (same_Some w y (sym h ∙ g)) l

pub onward : {t : List ℕ} {x y z : ℕ} → slice_get t x ≡ Some y → IsRootOf t x z → IsRootOf t y z
onward g r = record { leads = behind g r.leads r.root; root = r.root }

-- each number has a root
root_below : (t : List ℕ) → LeadDown t → (bound x : ℕ) → x < bound → x < length t → (z : ℕ) × IsRootOf t x z
root_below t down zero x l within = absurd (omega arith)
root_below t down (suc bound) x l within =
    let (y, g) = slice_get_there t x within in
    let k : y ≤ x = down x y g in
    elim (cases_eq y x) [
      | inl e ↦ (x, at_root (g ∙ ap Some e))
      | inr ne ↦ (let (z, r) = root_below t down bound y (omega arith) (omega arith) in (z, before g r))
    ]

pub has_root : (t : List ℕ) → LeadDown t → (x : ℕ) → x < length t → (z : ℕ) × IsRootOf t x z
has_root t down x within = root_below t down (x + 1) x (omega arith) within

-- ---- a number gets an entry that it leads to

module _ (t : List ℕ) (x y w : ℕ) (down : LeadDown t) (first : slice_get t x ≡ Some y) (second : slice_get t y ≡ Some w) where
  abbrev shorter : List ℕ
  shorter = set t x w

  there : x < length t
  there = slice_get_within t x y first

  lower : w ≤ x
  lower = let a = down x y first in let b = down y w second in omega (arith, a, b)

  entry : (k v : ℕ) → slice_get shorter k ≡ Some v → ((k ≡ x → ⊥) × (slice_get t k ≡ Some v)) ⊎ ((k ≡ x) × (w ≡ v))
  entry k v g = elim (cases_eq k x) [
    | inl e ↦ inr (e, same_Some w v (sym (set_same t x w there) ∙ subst (λ (i : ℕ). slice_get shorter i ≡ Some v) e g))
    | inr ne ↦ inl (ne, sym (set_other t x k w ne) ∙ g)
  ]

  root_stays : (z : ℕ) → slice_get t z ≡ Some z → slice_get shorter z ≡ Some z
  root_stays z r = elim (cases_eq z x) [
    | inl e ↦ (let at_x : slice_get t x ≡ Some x = subst (λ (i : ℕ). slice_get t i ≡ Some i) e r in
        let y_is : y ≡ x = same_Some y x (sym first ∙ at_x) in
        let w_is : w ≡ x = same_Some w x (sym second ∙ ap (slice_get t) y_is ∙ at_x) in
        subst (λ (i : ℕ). slice_get shorter i ≡ Some i) (sym e) (set_same t x w there ∙ ap Some w_is))
    | inr ne ↦ set_other t x z w ne ∙ r
  ]

  -- a path of at most so many steps
  leads_still : (a z : ℕ) → Leads t a z → slice_get t z ≡ Some z → Leads shorter a z
  leads_still a z stay r = stay
  leads_still a z (step b g stay) r = elim (cases_eq a x) [
    | inl e ↦ (let b_is : b ≡ y = same_Some b y (sym g ∙ ap (slice_get t) e ∙ first) in
        let w_is : w ≡ z = same_Some w z (sym second ∙ ap (slice_get t) (sym b_is) ∙ r) in
        step w (ap (slice_get shorter) e ∙ set_same t x w there) (subst (λ (i : ℕ). Leads shorter w i) w_is stay))
    | inr ne ↦ step b (set_other t x a w ne ∙ g) stay
  ]
  leads_still a z (step b g (step c h l)) r = elim (cases_eq a x) [
    | inl e ↦ (let b_is : b ≡ y = same_Some b y (sym g ∙ ap (slice_get t) e ∙ first) in
        let c_is : c ≡ w = same_Some c w (sym h ∙ ap (slice_get t) b_is ∙ second) in
        step c (ap (slice_get shorter) e ∙ set_same t x w there ∙ ap Some (sym c_is)) (leads_still c z l r))
    | inr ne ↦ step b (set_other t x a w ne ∙ g) (leads_still b z (step c h l) r)
  ]

  pub shortens : Shortens t shorter
  shortens = record {
    long = length-set t x w;
    down = λ k v g. elim (entry k v g) [ inl p ↦ down k v p.1 | inr q ↦ (let l = lower in omega (arith, q.0, q.1, l)) ];
    roots = λ a z r. record { leads = leads_still a z r.leads r.root; root = root_stays z r.root };
    sound = λ forms sound k v g. elim (entry k v g) [
      | inl p ↦ sound k v p.1
      | inr q ↦ subst (λ (i : ℕ). AreSame forms (ind i) (ind v)) (sym q.0) (subst (λ (i : ℕ). AreSame forms (ind x) (ind i)) q.1 (and_then (sound x y first) (sound y w second)))
    ];
  }

  -- the new entry leads to what the number led to
  pub goes_on : (z : ℕ) → IsRootOf t x z → IsRootOf shorter w z
  goes_on z r = let q = onward second (onward first r) in shortens.roots w z q

pub shortens_then : {a b c : List ℕ} → Shortens a b → Shortens b c → Shortens a c
shortens_then p q = record {
  long = q.long ∙ p.long;
  down = q.down;
  roots = λ x z r. q.roots x z (p.roots x z r);
  sound = λ forms s. q.sound forms (p.sound forms s);
}

-- ---- the root n gets the entry m

module _ (t : List ℕ) (m n : ℕ) (down : LeadDown t) (root_m : slice_get t m ≡ Some m) (root_n : slice_get t n ≡ Some n) (order : m ≤ n) where
  abbrev new : List ℕ
  new = set t n m

  here : n < length t
  here = slice_get_within t n n root_n

  leads_new : {x z : ℕ} → Leads t x z → slice_get t z ≡ Some z → Leads new x z
  leads_new stay r = stay
  leads_new {x} {z} (step y g l) r = elim (cases_eq x n) [
    | inl e ↦ (let root_x : slice_get t x ≡ Some x = subst (λ k. slice_get t k ≡ Some k) (sym e) root_n in
        let same : z ≡ x = from_root (step y g l) refl root_x in
        subst (λ k. Leads new x k) (sym same) stay)
    | inr ne ↦ step y (set_other t n x m ne ∙ g) (leads_new l r)
  ]

  root_after : (z : ℕ) → slice_get t z ≡ Some z → (w : ℕ) × IsRootOf new z w
  root_after z r = elim (cases_eq z n) [
    | inl e ↦ elim (cases_eq m n) [
      | inl f ↦ (n, subst (λ k. IsRootOf new k n) (sym e) (at_root (set_same t n m here ∙ ap Some f)))
      | inr ne ↦ (m, subst (λ k. IsRootOf new k m) (sym e) (before (set_same t n m here) (at_root (set_other t n m m ne ∙ root_m))))
    ]
    | inr ne ↦ (z, at_root (set_other t n z m ne ∙ r))
  ]

  leads_on : {x z w : ℕ} → IsRootOf t x z → IsRootOf new z w → IsRootOf new x w
  leads_on p q = record { leads = append (leads_new p.leads p.root) q.leads; root = q.root }

  stays : (x y : ℕ) → HaveOneRoot t x y → HaveOneRoot new x y
  stays x y (z, p, q) = let (w, r) = root_after z p.root in (w, leads_on p r, leads_on q r)

  one : (a b : ℕ) → IsRootOf t a m → IsRootOf t b n → HaveOneRoot new a b
  one a b p q = let (w, r) = root_after m root_m in (w, leads_on p r, leads_on q (before (set_same t n m here) r))

  down_new : LeadDown new
  down_new x y g = elim (cases_eq x n) [
    | inl e ↦ (let f : m ≡ y = same_Some m y (sym (set_same t n m here) ∙ subst (λ k. slice_get new k ≡ Some y) e g) in omega arith)
    | inr ne ↦ down x y (sym (set_other t n x m ne) ∙ g)
  ]

  sound_new : (forms : List Form) → AreEntriesSame forms t → AreSame forms (ind n) (ind m) → AreEntriesSame forms new
  sound_new forms sound same x y g = elim (cases_eq x n) [
    | inl e ↦ (let f : m ≡ y = same_Some m y (sym (set_same t n m here) ∙ subst (λ k. slice_get new k ≡ Some y) e g) in
        subst (λ (k : ℕ). AreSame forms (ind x) (ind k)) f (subst (λ (k : ℕ). AreSame forms (ind k) (ind m)) (sym e) same))
    | inr ne ↦ sound x y (sym (set_other t n x m ne) ∙ g)
  ]

joins_low : (t : List ℕ) (a b m n : ℕ) → LeadDown t → IsRootOf t a m → IsRootOf t b n → m ≤ n → Joins t (set t n m) a b
joins_low t a b m n down p q order = record {
  long = length-set t n m;
  down = down_new t m n down p.root q.root order;
  stays = stays t m n down p.root q.root order;
  one = one t m n down p.root q.root order a b p q;
  sound = λ forms sound same. sound_new t m n down p.root q.root order forms sound
      (and_then (turned (same_along sound q.leads)) (and_then (turned same) (same_along sound p.leads)));
}

joins_turned : {t u : List ℕ} {a b : ℕ} → Joins t u a b → Joins t u b a
joins_turned j = record {
  long = j.long;
  down = j.down;
  stays = j.stays;
  one = (let (z, p, q) = j.one in (z, q, p));
  sound = λ forms sound same. j.sound forms sound (turned same);
}

-- paths were made shorter before
joins_after : {t u v : List ℕ} {a b : ℕ} → Shortens t u → Joins u v a b → Joins t v a b
joins_after s j = record {
  long = j.long ∙ s.long;
  down = j.down;
  stays = λ x y (z, p, q). j.stays x y (z, s.roots x z p, s.roots y z q);
  one = j.one;
  sound = λ forms sound same. j.sound forms (s.sound forms sound) same;
}

module _ (t u v : List ℕ) (a b first second : ℕ) (p : Shortens t u) (root_a : IsRootOf u a first) (q : Shortens u v) (root_b : IsRootOf v b second) where
  pub joins_second : first ≤ second → Joins t (set v second first) a b
  joins_second order = joins_after (shortens_then p q) (joins_low v a b first second q.down (q.roots a first root_a) root_b order)

  pub joins_first : second ≤ first → Joins t (set v first second) a b
  joins_first order = joins_after (shortens_then p q) (joins_turned (joins_low v b a second first q.down root_b (q.roots a first root_a) order))

-- ---- each root in its place

pub flattened : (t now : List ℕ) (place : ℕ) → LeadDown t → place < length t → length now ≡ length t →
    ((x : ℕ) → x < place → IsRootOf t x (slice_index now x)) → ((x : ℕ) → place ≤ x → slice_get now x ≡ slice_get t x) →
    IsRootOf t place (slice_index now (slice_index now place))
flattened t now place down l long earlier later =
    let next = slice_index now place in
    let l' : place < length now = omega arith in
    let at : slice_get t place ≡ Some next = sym (later place (omega arith)) ∙ slice_get-get_or now place 0 l' in
    let lower : next ≤ place = down place next at in
    elim (cases_eq next place) [
      | inl e ↦ (let here : slice_get t place ≡ Some place = at ∙ ap Some e in
          subst (IsRootOf t place) (sym (ap (slice_index now) e ∙ e)) (at_root here))
      | inr ne ↦ before at (earlier next (omega arith))
    ]

pub before_more : (t now : List ℕ) (place v : ℕ) → place < length now → ((x : ℕ) → x < place → IsRootOf t x (slice_index now x)) → IsRootOf t place v →
    (x : ℕ) → x < place + 1 → IsRootOf t x (slice_index (set now place v) x)
before_more t now place v l earlier r x k = elim (cases_eq x place) [
  | inl e ↦ (let h : slice_index (set now place v) place ≡ v = get_or_from_slice_get (set now place v) place v 0 (set_same now place v l) in
      subst (λ y. IsRootOf t y (slice_index (set now place v) y)) (sym e) (subst (IsRootOf t place) (sym h) r))
  | inr ne ↦ (let k' : x < place = omega arith in
      let l' : x < length now = omega arith in
      let h : slice_index (set now place v) x ≡ slice_index now x =
      get_or_from_slice_get (set now place v) x (slice_index now x) 0 (set_other now place x v ne ∙ slice_get-get_or now x 0 l') in
      subst (IsRootOf t x) (sym h) (earlier x k'))
]

pub behind_more : (t now : List ℕ) (place v : ℕ) → ((x : ℕ) → place ≤ x → slice_get now x ≡ slice_get t x) →
    (x : ℕ) → place + 1 ≤ x → slice_get (set now place v) x ≡ slice_get t x
behind_more t now place v later x l =
    set_other now place x v (λ e. (let bad : ⊥ = omega arith in bad)) ∙ later x (omega arith)

-- ---- each number alone

pub alone_down : (t : List ℕ) → IsAlone t → LeadDown t
alone_down t alone x y g = let e : x ≡ y = alone x y g in omega arith

pub alone_sound : (forms : List Form) (t : List ℕ) → IsAlone t → AreEntriesSame forms t
alone_sound forms t alone x y g = subst (λ (k : ℕ). AreSame forms (ind x) (ind k)) (alone x y g) itself
