-- The lines of one more fact.
use Rattle.std.proofs.Common.{◌≡◌, ℕ, zero, suc, ◌+◌, ◌<◌, ◌≤◌, ◌⊎◌, inl, inr, List, [], ◌∷◌, ◌++◌, length, slice_get, Option, Some, None, Bool, true, refl, sym, ◌∙◌, subst, arith}
use Rattle.std.proofs.lemmas.Bool.{cases_eq, cases_lt}
use Rattle.std.proofs.lemmas.List.{length-append}
use Rattle.std.proofs.lemmas.Option.{none-some, slice_get_within}
use Rattle.std.specs.List.{Contains}
use Rattle.axioms.specs.Ontology.{Ontology}
use Rattle.cert_check.specs.Derivation.{IsDerivation}
use Rattle.certificate.specs.Certificate.{Line}
use Rattle.engine.specs.Saturations.{Saturated, IsSaturated}
use Rattle.explain.proofs.Below.{rests_below, rests_on_birth}
use Rattle.explain.specs.Marks.{AreClosed, IsLastMarked, IsMarked, ServesLater, ShowMarked}
use Rattle.explain.specs.LineOrder.{IsOpen, IsShowing}
use Rattle.explain.proofs.Growing.{showing_grown}
use Rattle.explain.specs.OlderFacts.{AreOlderShown, rests_on}
use Rattle.facts.specs.Births.{Reason}
use Rattle.explain.proofs.Used.{premise_grown}
use Rattle.explain.specs.Uses.{IsPremise, RestsOn, EachIsUsed}
use Rattle.explain.specs.LinesOfFacts.{AreShowing, Lengthens}
use Rattle.facts.specs.declared.contexts.Fact.{Fact}
use Rattle.lemmas.proofs.Choices.{one_value}
use Rattle.lemmas.proofs.Members.{Contains-none, Contains-first, Contains-later, Contains-cons_cases}
use Rattle.lemmas.proofs.Places.{slice_get_there}
use Rattle.number_sets.specs.Pieces.{list_at}
use Rattle.normalise.specs.Problem.{prefixes_of}

-- ---- lists that grow

list_at_kept : (xs : List (List ℕ)) (x : List ℕ) (n : ℕ) → n < length xs → list_at (xs ++ x ∷ []) n ≡ list_at xs n
list_at_kept [] x n l = absurd (omega arith)
list_at_kept (y ∷ xs) x zero l = refl
list_at_kept (y ∷ xs) x (suc n) l = list_at_kept xs x n (omega arith)

list_at_last : (xs : List (List ℕ)) (x : List ℕ) → list_at (xs ++ x ∷ []) (length xs) ≡ x
list_at_last [] x = refl
list_at_last (y ∷ xs) x = list_at_last xs x

list_at_within : (xs : List (List ℕ)) (n k : ℕ) → Contains (list_at xs n) k → n < length xs
list_at_within [] n k h = absurd (Contains-none k h)
list_at_within (y ∷ xs) zero k h = omega arith
list_at_within (y ∷ xs) (suc n) k h = let l = list_at_within xs n k h in omega arith

before_or_last : (shown : List (List ℕ)) (numbers : List ℕ) (n : ℕ) → n < length (shown ++ numbers ∷ []) → (n < length shown) ⊎ (n ≡ length shown)
before_or_last shown numbers n l =
    let long : length (shown ++ numbers ∷ []) ≡ length shown + 1 = length-append shown (numbers ∷ []) in
    elim (cases_lt n (length shown)) [ inl k ↦ inl k | inr k ↦ inr (omega arith) ]

-- ---- one more fact, or none

-- what older facts say is shown when the next fact comes
pub older_shown : (o : Ontology) (s : Saturated) (marks : List Bool) (lines : List Line) (shown : List (List ℕ)) (k : ℕ) → IsSaturated o s → AreClosed s marks → IsMarked marks k → k ≡ length shown → k < length s.state.facts → IsShowing o s marks lines shown → AreOlderShown s lines shown k
older_shown o s marks lines shown k saturated closed marked next l h r birth m rests f at =
    let fact = slice_get_there s.state.facts k l in
    let below = rests_below s k m fact.0 r birth (saturated.born.born k fact.0 r fact.1 birth) (r, birth, rests) in
    h.each m f (omega (arith, below, next)) (closed k m marked (r, birth, rests)) at

-- the next facts are not marked
module _ (o : Ontology) (s : Saturated) (marks : List Bool) (lines : List Line) (shown longer : List (List ℕ)) (long : length shown ≤ length longer)
    (same : (n : ℕ) → list_at longer n ≡ list_at shown n) (unmarked : (n : ℕ) → length shown ≤ n → n < length longer → IsMarked marks n → ⊥) (h : IsShowing o s marks lines shown) where
  each_past : (n : ℕ) (f : Fact) → n < length longer → IsMarked marks n → slice_get s.state.facts n ≡ Some f → AreShowing (prefixes_of s.normal) lines (list_at longer n) f
  each_past n f l marked at = elim (cases_lt n (length shown)) [
    | inl k ↦ rw (same n) (h.each n f k marked at)
    | inr k ↦ absurd (unmarked n k l marked)
  ]

  open_past : (n : ℕ) → IsOpen s marks shown n → IsOpen s marks longer n
  open_past n a = record {
    fact = a.fact;
    marked = a.marked;
    shows = subst (λ ns. Contains ns (suc n)) (sym (same a.fact)) a.shows;
    serves_none = λ m l marked. elim (cases_lt m (length shown)) [ inl k ↦ a.serves_none m k marked | inr k ↦ absurd (unmarked m k l marked) ];
  }

  pub showing_past : IsShowing o s marks lines longer
  showing_past = record {
    derivation = h.derivation;
    each = each_past;
    needed = λ n l. elim (h.needed n l) [ inl p ↦ inl p | inr a ↦ inr (open_past n a) ];
  }

list_at_none : (shown : List (List ℕ)) (n : ℕ) → list_at (shown ++ [] ∷ []) n ≡ list_at shown n
list_at_none [] zero = refl
list_at_none [] (suc n) = refl
list_at_none (x ∷ shown) zero = refl
list_at_none (x ∷ shown) (suc n) = list_at_none shown n

-- the next fact is not marked
pub showing_not : (o : Ontology) (s : Saturated) (marks : List Bool) (lines : List Line) (shown : List (List ℕ)) → (IsMarked marks (length shown) → ⊥) → IsShowing o s marks lines shown → IsShowing o s marks lines (shown ++ [] ∷ [])
showing_not o s marks lines shown unmarked h =
    showing_past o s marks lines shown (shown ++ [] ∷ []) (omega (arith, length-append shown ([] ∷ []))) (list_at_none shown)
    (λ n low high m. unmarked (subst (IsMarked marks) (let e : n ≡ length shown = omega (arith, low, high, length-append shown ([] ∷ [])) in e) m)) h

contains_or_not : (ns : List ℕ) (m : ℕ) → Contains ns m ⊎ (Contains ns m → ⊥)
contains_or_not [] m = inr (Contains-none m)
contains_or_not (n ∷ ns) m = elim (cases_eq n m) [
  | inl e ↦ inl (subst (λ k. Contains (n ∷ ns) k) e (Contains-first n ns))
  | inr apart ↦ elim (contains_or_not ns m) [
    | inl c ↦ inl (Contains-later n m ns c)
    | inr none ↦ inr (λ c. elim (Contains-cons_cases n m ns c) [ inl e ↦ apart e | inr d ↦ none d ])
  ]
]

rests_or_not : (s : Saturated) (n m : ℕ) → RestsOn s n m ⊎ (RestsOn s n m → ⊥)
rests_or_not s n m = go (slice_get s.state.births n) refl
  where
    go : (birth : Option Reason) → slice_get s.state.births n ≡ birth → RestsOn s n m ⊎ (RestsOn s n m → ⊥)
    go None e = inr (λ (r, at, c). none-some r (sym e ∙ at))
    go (Some r) e = elim (contains_or_not (rests_on s.normal.entries r) m) [
      | inl c ↦ inl (r, e, c)
      | inr none ↦ inr (λ h. none (rests_on_birth s n m r e h))
    ]

-- the next fact is marked, and lines that show it were added
module _ (o : Ontology) (s : Saturated) (marks : List Bool) (old new : List Line) (shown : List (List ℕ)) (numbers : List ℕ) (f : Fact)
    (at_f : slice_get s.state.facts (length shown) ≡ Some f) (marked : IsMarked marks (length shown)) (saturated : IsSaturated o s) (within : length marks ≤ length s.state.facts)
    (h : IsShowing o s marks old shown) (derivation : IsDerivation o new) (g : Lengthens old new)
    (shows : AreShowing (prefixes_of s.normal) new numbers f) (used : EachIsUsed s shown (length shown) old new numbers) where
  abbrev Goal : ℕ → Type 0
  Goal n = IsPremise new n ⊎ IsOpen s marks (shown ++ numbers ∷ []) n

  each_shown : (n : ℕ) (e : Fact) → n < length (shown ++ numbers ∷ []) → IsMarked marks n → slice_get s.state.facts n ≡ Some e → AreShowing (prefixes_of s.normal) new (list_at (shown ++ numbers ∷ []) n) e
  each_shown n e l m at = elim (before_or_last shown numbers n l) [
    | inl k ↦ rw (list_at_kept shown numbers n k) (showing_grown g (h.each n e k m at))
    | inr is ↦ this is
  ]
    where
      this : n ≡ length shown → AreShowing (prefixes_of s.normal) new (list_at (shown ++ numbers ∷ []) n) e
      this is =
          let same : f ≡ e = one_value (slice_get s.state.facts n) f e (subst (λ k. slice_get s.state.facts k ≡ Some f) (sym is) at_f) at in
          rw (is, list_at_last shown numbers) (subst (AreShowing (prefixes_of s.normal) new numbers) same shows)

  -- only a later fact rests on the line of this one
  rests_on_none : (m : ℕ) → m < length (shown ++ numbers ∷ []) → IsMarked marks m → RestsOn s m (length shown) → ⊥
  rests_on_none m l on (r, birth, rests) =
      let fact = slice_get_there s.state.facts m (omega (arith, within, slice_get_within marks m true on)) in
      let below = rests_below s m (length shown) fact.0 r birth (saturated.born.born m fact.0 r fact.1 birth) (r, birth, rests) in
      omega (arith, below, l, length-append shown (numbers ∷ []))

  of_use : (n : ℕ) → IsPremise new n ⊎ Contains numbers (suc n) → Goal n
  of_use n needs = elim needs [
    | inl p ↦ inl p
    | inr c ↦ inr (record { fact = length shown; marked = marked; shows = subst (λ ns. Contains ns (suc n)) (sym (list_at_last shown numbers)) c; serves_none = rests_on_none })
  ]

  -- the line shows a fact that served none: this one rests on it, or it serves none yet
  of_open : (n : ℕ) → n < length new → IsOpen s marks shown n → Goal n
  of_open n l a = elim (rests_or_not s (length shown) a.fact) [
    | inl rests ↦ of_use n (used n l (inr (a.fact, rests, a.shows)))
    | inr free ↦ inr (record {
      fact = a.fact;
      marked = a.marked;
      shows = subst (λ ns. Contains ns (suc n)) (sym (list_at_kept shown numbers a.fact (list_at_within shown a.fact (suc n) a.shows))) a.shows;
      serves_none = λ m k on rests. elim (before_or_last shown numbers m k) [ inl before ↦ a.serves_none m before on rests | inr e ↦ free (subst (λ i. RestsOn s i a.fact) e rests) ];
    })
  ]

  each_needed : (n : ℕ) → n < length new → Goal n
  each_needed n l = elim (cases_lt n (length old)) [
    | inl k ↦ elim (h.needed n k) [ inl p ↦ inl (premise_grown g n p) | inr a ↦ of_open n l a ]
    | inr k ↦ of_use n (used n l (inl k))
  ]

  pub showing_more : IsShowing o s marks new (shown ++ numbers ∷ [])
  showing_more = record { derivation = derivation; each = each_shown; needed = each_needed }

-- ---- all facts

pub all_shown : (o : Ontology) (s : Saturated) (marks : List Bool) (lines : List Line) (shown : List (List ℕ)) → length marks ≤ length shown → IsShowing o s marks lines shown → ShowMarked s marks (IsLastMarked s marks) lines
all_shown o s marks lines shown long h = record {
  numbers = shown;
  each = λ n f marked at. h.each n f (there n marked) marked at;
  needed = λ n l. elim (h.needed n l) [
    | inl p ↦ inl p
    | inr a ↦ inr (a.fact, (a.marked, λ (m, later, marked, rests). a.serves_none m (there m marked) marked rests), a.shows)
  ];
}
  where
    there : (n : ℕ) → IsMarked marks n → n < length shown
    there n marked = omega (arith, long, slice_get_within marks n true marked)

-- of marks that are handed on only the first ones are last
pub first_shown : (s : Saturated) (first marks : List Bool) (lines : List Line) → ((n : ℕ) → IsMarked first n → IsMarked marks n) → ((n : ℕ) → IsMarked marks n → IsMarked first n ⊎ ServesLater s marks n)
    → ShowMarked s marks (IsLastMarked s marks) lines → ShowMarked s first (IsMarked first) lines
first_shown s first marks lines kept only h = record {
  numbers = h.numbers;
  each = λ n f marked at. h.each n f (kept n marked) at;
  needed = λ n l. elim (h.needed n l) [
    | inl p ↦ inl p
    | inr (m, (marked, last), c) ↦ inr (m, elim (only m marked) [ inl k ↦ k | inr later ↦ absurd (last later) ], c)
  ];
}
