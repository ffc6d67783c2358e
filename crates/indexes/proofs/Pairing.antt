-- Two classes of one list, found by the places of the two.
use Rattle.std.proofs.Common.{◌≡◌, ℕ, ◌+◌, ◌<◌, ◌≤◌, ⊎_elim, List, length, get_or, slice_get, Option, Some, None, Contains, IfSome, refl, sym, ap, subst, ◌∙◌, arith}
use Rattle.std.proofs.lemmas.Bool.{cases_lt}
use Rattle.std.proofs.lemmas.Grind.{get_or_default_zero}
use Rattle.std.proofs.lemmas.List.Elements.{Contains-get_or}
use Rattle.std.proofs.lemmas.Option.{slice_get_within}
use Rattle.std.specs.List.Sorted.{IsNonDecreasing}
use Rattle.lemmas.proofs.Places.{slice_get_there}
use Rattle.indexes.specs.declared.disjoint.Operand.{Operand}
use Rattle.indexes.specs.declared.key_lists.KeyLists.{KeyLists}
use Rattle.indexes.specs.declared.keys.Key.{Key}
use Rattle.indexes.specs.FormIndex.{at_key, ArePlaced}
use Rattle.indexes.specs.Disjoint.{AreInLists, IsOf, IsPair}
use Rattle.indexes.proofs.Operands.{one}

-- the operand at the first place is that one
there_is : (operands : List Operand) (p q : ℕ) (a b : Operand) → p ≡ q → slice_get operands p ≡ Some a → slice_get operands q ≡ Some b → a ≡ b
there_is operands p q a b e at on = one (slice_get operands q) a b (subst (λ (i : ℕ). slice_get operands i ≡ Some a) e at) on

abbrev pub blank : Operand
blank = record { class = record { 0 = 0 }; list = 0; behind = 0 }

-- a pair of such places is one of those places
pub other_places : {operands : List Operand} {n : ℕ} (P Q R S : ℕ → Type 0) → ((p : ℕ) → P p → R p) → ((q : ℕ) → Q q → S q) → IsPair operands P Q n → IsPair operands R S n
other_places P Q R S one_of other_of w = record { p = w.p; q = w.q; a = w.a; b = w.b; behind = w.behind; first = one_of w.p w.first; second = other_of w.q w.second; list = w.list }

-- where a member stands
place_of : (xs : List ℕ) (x : ℕ) → Contains xs x → (k : ℕ) × (k < length xs) × (get_or xs k 0 ≡ x)
place_of xs x c = (c.0, c.1, sym (get_or_default_zero xs c.0 x c.1) ∙ c.2)

-- ---- the places of a key

-- the operands of a slice are those, and the list has the places of the key among them
pub record ArePlacesOf (self slice : List Operand) (k : Key) (list : List ℕ) : Type 0 where
  pub same : slice ≡ self
  pub lists : AreInLists slice
  pub there : (p : ℕ) → Contains list p → p < length slice
  pub of : (p : ℕ) → Contains list p → IsOf self k p
  pub all : (p : ℕ) → IsOf self k p → Contains list p

pub placed : {inside self slice : List Operand} (places : KeyLists) (k : Key) (list : List ℕ) → ArePlaced inside places → inside ≡ self → slice ≡ inside → list ≡ at_key places k → ArePlacesOf self slice k list
placed {inside} {self} {slice} places k list are e f g =
    let inner : (p : ℕ) → Contains list p → IsOf inside k p = λ p c. (are.listed k p).0 (subst (λ (l : List ℕ). Contains l p) g c) in
    record {
      same = f ∙ e;
      lists = subst AreInLists (sym f) are.lists;
      there = λ p c. let w = inner p c in subst (λ (o : List Operand). p < length o) (sym f) (slice_get_within inside p w.0 w.1);
      of = λ p c. subst (λ (o : List Operand). IsOf o k p) e (inner p c);
      all = λ p w. subst (λ (l : List ℕ). Contains l p) (sym g) ((are.listed k p).1 (subst (λ (o : List Operand). IsOf o k p) (sym e) w));
    }

pub other_pair : {self slice : List Operand} {n : ℕ} (P Q R S : ℕ → Type 0) → slice ≡ self → ((p : ℕ) → P p → R p) → ((q : ℕ) → Q q → S q) → IsPair slice P Q n → IsPair self R S n
other_pair {n = n} P Q R S same one_of other_of w = other_places P Q R S one_of other_of (subst (λ (o : List Operand). IsPair o P Q n) same w)

-- what is found by places is found by keys
module _ {self slice : List Operand} (k l : Key) (one other : List ℕ) (firsts : ArePlacesOf self slice k one) (seconds : ArePlacesOf self slice l other) where
  pub some_by_keys : (pair : Option ℕ) → IfSome pair (λ n. IsPair slice (Contains one) (Contains other) n) → IfSome pair (λ n. IsPair self (IsOf self k) (IsOf self l) n)
  some_by_keys None some = tt
  some_by_keys (Some m) some = other_pair (Contains one) (Contains other) (IsOf self k) (IsOf self l) firsts.same firsts.of seconds.of some

-- ---- the pair that is found

-- of the pairs of the places each is of the first from i on and of the second from j on
abbrev pub AreAhead : List Operand → List ℕ → List ℕ → ℕ → ℕ → Type 0
AreAhead operands firsts seconds i j = (k l : ℕ) (a : Operand) → k < length firsts → l < length seconds → slice_get operands (get_or firsts k 0) ≡ Some a
    → get_or firsts k 0 < get_or seconds l 0 → get_or seconds l 0 ≤ get_or firsts k 0 + a.behind → (i ≤ k) × (j ≤ l)

module _ (operands : List Operand) (are : AreInLists operands) (firsts seconds : List ℕ) (i j : ℕ) (ahead : AreAhead operands firsts seconds i j) where
  -- where each pair has its places
  at_places : (n : ℕ) (w : IsPair operands (Contains firsts) (Contains seconds) n) → (k : ℕ) × (l : ℕ) × (k < length firsts) × (l < length seconds) × (get_or firsts k 0 ≡ w.p) × (get_or seconds l 0 ≡ w.q) × (i ≤ k) × (j ≤ l)
  at_places n w =
      let f = place_of firsts w.p w.first in
      let s = place_of seconds w.q w.second in
      let more = ahead f.0 s.0 w.a f.1 s.1 (ap (slice_get operands) f.2 ∙ w.behind.first) (omega (arith, f.2, s.2, w.behind.below)) (omega (arith, f.2, s.2, w.behind.within)) in
      (f.0, s.0, f.1, s.1, f.2, s.2, more.0, more.1)

  pub no_first : length firsts ≤ i → (n : ℕ) → IsPair operands (Contains firsts) (Contains seconds) n → ⊥
  no_first end n w = let at = at_places n w in omega (arith, end, at.2, at.6)

  module _ (firsts_rise : IsNonDecreasing firsts) (seconds_rise : IsNonDecreasing seconds) (low : i < length firsts) (high : j < length seconds) where
    module _ (a : Operand) (here : slice_get operands (get_or firsts i 0) ≡ Some a) where
      pub first_passed : get_or firsts i 0 + a.behind < get_or seconds j 0 → AreAhead operands firsts seconds (i + 1) j
      first_passed not k l b kl ll at below within =
          let w = ahead k l b kl ll at below within in (
            ⊎_elim
                (λ lt. omega (arith, lt))
                (λ ge.
                let e : k ≡ i = omega (arith, ge, w.0) in
                let same : b ≡ a = there_is operands _ _ b a (ap (λ (m : ℕ). get_or firsts m 0) e) at here in
                absurd (omega (arith, not, within, seconds_rise j l 0 w.1 ll, ap (λ (m : ℕ). get_or firsts m 0) e, ap (λ (o : Operand). o.behind) same)))
                (cases_lt i k),
            w.1,
          )

      module _ (below : get_or firsts i 0 < get_or seconds j 0) (within : get_or seconds j 0 ≤ get_or firsts i 0 + a.behind) where
        pub found : IsPair operands (Contains firsts) (Contains seconds) a.list
        found =
            let b = slice_get_there operands (get_or seconds j 0) (omega (arith, within, are.within _ a here)) in
            record {
              p = get_or firsts i 0;
              q = get_or seconds j 0;
              a = a;
              b = b.0;
              behind = record { first = here; second = b.1; below = below; within = within };
              first = Contains-get_or firsts i 0 low;
              second = Contains-get_or seconds j 0 high;
              list = refl;
            }
