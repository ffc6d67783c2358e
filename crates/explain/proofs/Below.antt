-- Marks on what the lines of marked facts rest on.
use Rattle.std.proofs.Common.{◌≡◌, ℕ, ◌+◌, ◌<◌, ◌≤◌, ◌⊎◌, ◌↔◌, inl, inr, List, [], ◌∷◌, length, map, take, slice_get, Some, Bool, true, false, if◌then◌else◌, ◌||◌, ◌&&◌, ◌==◌, sym, ap, ◌∙◌, subst, arith}
use Rattle.std.proofs.lemmas.Bool.{cases_lt}
use Rattle.std.specs.List.{Contains}
use Rattle.engine.specs.Saturations.{Saturated}
use Rattle.explain.specs.Marks.{IsMarked, ServesLater}
use Rattle.explain.specs.OlderFacts.{rests_on, by_axiom}
use Rattle.explain.specs.Uses.{RestsOn}
use Rattle.facts.specs.Births.{Reason, IsBirth}
use Rattle.facts.specs.declared.contexts.Fact.{Fact}
use Rattle.lemmas.proofs.Choices.{one_value}
use Rattle.lemmas.proofs.Members.{Contains-none, Contains-first, Contains-later, Contains-cons_cases}
use Rattle.lemmas.proofs.Places.{slice_get_take, slice_get_there}
use Rattle.normalise.specs.Listing.{Listing}
use Rattle.normalise.specs.declared.entries.Entry.{Entry}

-- ---- what a line rests on is older

pub rests_on_birth : (s : Saturated) (n m : ℕ) (r : Reason) → slice_get s.state.births n ≡ Some r → RestsOn s n m → Contains (rests_on s.normal.entries r) m
rests_on_birth s n m r birth h =
    subst (λ q. Contains (rests_on s.normal.entries q) m) (one_value (slice_get s.state.births n) h.0 r h.1 birth) h.2

Contains-take_one : (xs : List ℕ) (m : ℕ) → Contains (take 1 xs) m → Contains xs m
Contains-take_one [] m h = h
Contains-take_one (x ∷ xs) m h = elim (Contains-cons_cases x m [] h) [ inl e ↦ subst (λ y. Contains (x ∷ xs) y) e (Contains-first x xs) | inr k ↦ absurd (Contains-none m k) ]

rests_on_older : (entries : List Entry) (r : Reason) (m : ℕ) → Contains (rests_on entries r) m → Contains r.older m
rests_on_older entries r m h = go ((r.condition == 1) || (r.condition == 10)) ((r.condition == 7) && by_axiom entries r.form) h
  where
    go : (a b : Bool) → Contains (if a then [] else (if b then take 1 r.older else r.older)) m → Contains r.older m
    go true b k = absurd (Contains-none m k)
    go false true k = Contains-take_one r.older m k
    go false false k = k

older_there : (facts : List Fact) (ns : List ℕ) (older : List Fact) (m : ℕ) → map (slice_get facts) ns ≡ map Some older → Contains ns m → (f : Fact) × (slice_get facts m ≡ Some f)
older_there facts [] older m e h = absurd (Contains-none m h)
older_there facts (n ∷ ns) [] m e h = absurd cc
older_there facts (n ∷ ns) (f ∷ older) m e h =
    let first : slice_get facts n ≡ Some f = cc in
    let others : map (slice_get facts) ns ≡ map Some older = cc in
    elim (Contains-cons_cases n m ns h) [
      | inl same ↦ (f, subst (λ k. slice_get facts k ≡ Some f) same first)
      | inr k ↦ older_there facts ns older m others k
    ]

pub rests_below : (s : Saturated) (n m : ℕ) (f : Fact) (r : Reason) → slice_get s.state.births n ≡ Some r → IsBirth s.state.problem (take n s.state.facts) f r → RestsOn s n m → m < n
rests_below s n m f r birth born h =
    let older = older_there (take n s.state.facts) r.older born.0 m born.1 (rests_on_older s.normal.entries r m (rests_on_birth s n m r birth h)) in
    (slice_get_take n s.state.facts m older.0 older.1).0

-- each of the numbers that the code names for the n-th fact is below n
pub named_below : (s : Saturated) (normal : Listing) (n : ℕ) (r : Reason) (numbers : List ℕ) (m : ℕ) → normal ≡ s.normal → n < length s.state.facts → slice_get s.state.births n ≡ Some r → ((f : Fact) → slice_get s.state.facts n ≡ Some f → IsBirth s.state.problem (take n s.state.facts) f r) → numbers ≡ rests_on normal.entries r → Contains numbers m → m < n
named_below s normal n r numbers m same l birth born e h =
    let f = slice_get_there s.state.facts n l in
    rests_below s n m f.0 r birth (born f.0 f.1) (r, birth, subst (λ ns. Contains ns m) (e ∙ ap (λ (v : Listing). rests_on v.entries r) same) h)

pub all_below : (s : Saturated) (n : ℕ) (r : Reason) → n < length s.state.facts → slice_get s.state.births n ≡ Some r → ((f : Fact) → slice_get s.state.facts n ≡ Some f → IsBirth s.state.problem (take n s.state.facts) f r) → (m : ℕ) → RestsOn s n m → m < n
all_below s n r l birth born m h = let f = slice_get_there s.state.facts n l in rests_below s n m f.0 r birth (born f.0 f.1) h

-- ---- marks of one fact

abbrev pub Adds : List Bool → List Bool → (ℕ → Type 0) → Type 0
Adds marks new P = (n : ℕ) → IsMarked new n ↔ (IsMarked marks n ⊎ P n)

pub adds_two : (marks half new : List Bool) (l m : ℕ) → Adds marks half (λ n. n ≡ l) → Adds half new (λ n. n ≡ m) → Adds marks new (λ n. Contains (l ∷ m ∷ []) n)
adds_two marks half new l m g h n = (
  λ k. elim ((h n).0 k) [
    | inl d ↦ elim ((g n).0 d) [ inl o ↦ inl o | inr e ↦ inr (subst (λ j. Contains (l ∷ m ∷ []) j) (sym e) (Contains-first l (m ∷ []))) ]
    | inr e ↦ inr (subst (λ j. Contains (l ∷ m ∷ []) j) (sym e) (Contains-later l m (m ∷ []) (Contains-first m [])))
  ],
  λ k. elim k [
    | inl o ↦ (h n).1 (inl ((g n).1 (inl o)))
    | inr c ↦ elim (Contains-cons_cases l n (m ∷ []) c) [
      | inl e ↦ (h n).1 (inl ((g n).1 (inr (sym e))))
      | inr d ↦ elim (Contains-cons_cases m n [] d) [ inl e ↦ (h n).1 (inr (sym e)) | inr z ↦ absurd (Contains-none n z) ]
    ]
  ],
)

pub adds_rests : (s : Saturated) (k : ℕ) (r : Reason) (numbers : List ℕ) (marks new : List Bool) → slice_get s.state.births k ≡ Some r → numbers ≡ rests_on s.normal.entries r → Adds marks new (λ n. Contains numbers n) → Adds marks new (RestsOn s k)
adds_rests s k r numbers marks new birth e h n = (
  λ g. elim ((h n).0 g) [ inl l ↦ inl l | inr c ↦ inr (r, birth, subst (λ ns. Contains ns n) e c) ],
  λ g. elim g [ inl l ↦ (h n).1 (inl l) | inr c ↦ (h n).1 (inr (subst (λ ns. Contains ns n) (sym e) (rests_on_birth s k n r birth c))) ],
)

-- ---- marks so far

pub from_next : (k n : ℕ) → k ≤ n → (k + 1 ≤ n) ⊎ (n ≡ k)
from_next k n l = elim (cases_lt k n) [ inl h ↦ inl (omega arith) | inr h ↦ inr (omega arith) ]

-- marks are handed on from the k-th fact to the last that has one
pub record AreHandedOn (s : Saturated) (first marks : List Bool) (k : ℕ) : Type 0 where
  pub long : length marks ≡ length first
  pub kept : (n : ℕ) → IsMarked first n → IsMarked marks n
  pub closed : (n m : ℕ) → k ≤ n → IsMarked marks n → RestsOn s n m → IsMarked marks m
  pub only : (n : ℕ) → IsMarked marks n → IsMarked first n ⊎ ServesLater s marks n

pub handed_on_more : (s : Saturated) (first marks new : List Bool) (j k : ℕ) → j ≡ k + 1 → AreHandedOn s first marks j → IsMarked marks k → length new ≡ length marks → Adds marks new (RestsOn s k) → ((n : ℕ) → RestsOn s k n → n < k) → AreHandedOn s first new k
handed_on_more s first marks new j k one h marked long adds older = record {
  long = long ∙ h.long;
  kept = λ n g. keep n (h.kept n g);
  closed = λ n m l g r. elim ((adds n).0 g) [ inl o ↦ closed n m l o r | inr c ↦ absurd (omega (arith, older n c)) ];
  only = λ n g. elim ((adds n).0 g) [ inl o ↦ only n o | inr c ↦ inr (k, older n c, keep k marked, c) ];
}
  where
    keep : (n : ℕ) → IsMarked marks n → IsMarked new n
    keep n g = (adds n).1 (inl g)

    closed : (n m : ℕ) → k ≤ n → IsMarked marks n → RestsOn s n m → IsMarked new m
    closed n m l g r = elim (from_next k n l) [
      | inl z ↦ keep m (h.closed n m (omega (arith, one)) g r)
      | inr e ↦ (adds m).1 (inr (subst (λ i. RestsOn s i m) e r))
    ]

    only : (n : ℕ) → IsMarked marks n → IsMarked first n ⊎ ServesLater s new n
    only n g = elim (h.only n g) [ inl f ↦ inl f | inr v ↦ inr (v.0, v.1, keep v.0 v.2, v.3) ]

-- from an earlier fact, where none between is marked
pub handed_on_past : (s : Saturated) (first marks : List Bool) (j k : ℕ) → AreHandedOn s first marks j → ((n : ℕ) → k ≤ n → n < j → IsMarked marks n → ⊥) → AreHandedOn s first marks k
handed_on_past s first marks j k h none = record {
  long = h.long;
  kept = h.kept;
  closed = λ n m l g r. elim (cases_lt n j) [ inl before ↦ absurd (none n l before g) | inr z ↦ h.closed n m z g r ];
  only = h.only;
}
