-- Runs and ascending lists are each other's.
use Rattle.std.proofs.Common.{◌≡◌, ℕ, zero, suc, ◌+◌, ◌-◌, ◌<◌, ◌≤◌, ◌==◌, Bool, true, false, inl, inr, List, [], ◌∷◌, ◌++◌, if◌then◌else◌, refl, sym, ap, ◌∙◌, subst, arith}
use Rattle.std.specs.List.{range_with_len, AllByRecursion}
use Rattle.std.proofs.lemmas.Bool.{cases_eq, eq-eqb, eqb-true}
use Rattle.certificate.specs.Runs.{Run, with_number, runs_of, numbers_in, numbers_of, AreApart}
use Rattle.certificate.specs.Writability.{Ascends}

not_true : (b : Bool) → (b ≡ true → ⊥) → b ≡ false
not_true true h = absurd (h refl)
not_true false h = refl

abbrev pub run_from : ℕ → ℕ → Run
run_from a b = record { first = a; last = b }

joined : (x : ℕ) (run : Run) (runs : List Run) → run.first ≡ suc x → with_number x (run ∷ runs) ≡ run_from x run.last ∷ runs
joined x run runs e = rw (eq-eqb run.first (suc x) e) refl

alone : (x : ℕ) (run : Run) (runs : List Run) → (run.first ≡ suc x → ⊥) → with_number x (run ∷ runs) ≡ run_from x x ∷ run ∷ runs
alone x run runs d = rw (not_true (run.first == suc x) (λ e. d (eqb-true run.first (suc x) e))) refl

one_number : (x : ℕ) → numbers_in (run_from x x) ≡ x ∷ []
one_number x = let e : x - x ≡ 0 = omega arith in ap (λ n. range_with_len x (suc n)) e

-- ---- from numbers to runs and back

numbers_with : (x : ℕ) (runs : List Run) → AreApart runs → numbers_of (with_number x runs) ≡ x ∷ numbers_of runs
numbers_with x [] h = ap (λ xs. xs ++ []) (one_number x)
numbers_with x (run ∷ runs) h =
    elim (cases_eq run.first (suc x)) [
      | inl e ↦ ap numbers_of (joined x run runs e) ∙ together e (first_in run runs h)
      | inr d ↦ ap numbers_of (alone x run runs d) ∙ ap (λ xs. xs ++ numbers_of (run ∷ runs)) (one_number x)
    ]
  where
    first_in : (run : Run) (runs : List Run) → AreApart (run ∷ runs) → run.first ≤ run.last
    first_in run [] h = h
    first_in run (next ∷ runs) h = h.0

    together : run.first ≡ suc x → run.first ≤ run.last → numbers_of (run_from x run.last ∷ runs) ≡ x ∷ numbers_of (run ∷ runs)
    together e l =
        let many : run.last - x ≡ suc (run.last - run.first) = omega arith in
        let start : x + 1 ≡ run.first = omega arith in
        ap (λ xs. (x ∷ xs) ++ numbers_of runs) (ap (λ n. range_with_len (x + 1) n) many ∙ ap (λ a. range_with_len a (suc (run.last - run.first))) start)

-- the first run begins above x
abbrev BeginsAbove : ℕ → List Run → Type 0
BeginsAbove x [] = Unit {0}
BeginsAbove x (run ∷ runs) = x < run.first

begins : (x y : ℕ) (runs : List Run) → x < y → BeginsAbove x (with_number y runs)
begins x y [] l = l
begins x y (run ∷ runs) l =
    elim (cases_eq run.first (suc y)) [
      | inl e ↦ subst (BeginsAbove x) (sym (joined y run runs e)) l
      | inr d ↦ subst (BeginsAbove x) (sym (alone y run runs d)) l
    ]

above : (x : ℕ) (xs : List ℕ) → Ascends (x ∷ xs) → BeginsAbove x (runs_of xs)
above x [] h = tt
above x (y ∷ ys) h = begins x y (runs_of ys) h.0

apart_with : (x : ℕ) (runs : List Run) → AreApart runs → BeginsAbove x runs → AreApart (with_number x runs)
apart_with x [] h l = omega arith
apart_with x (run ∷ runs) h l =
    elim (cases_eq run.first (suc x)) [
      | inl e ↦ subst AreApart (sym (joined x run runs e)) (longer run runs h l)
      | inr d ↦ subst AreApart (sym (alone x run runs d)) (omega arith, two d, h)
    ]
  where
    longer : (run : Run) (runs : List Run) → AreApart (run ∷ runs) → x < run.first → AreApart (run_from x run.last ∷ runs)
    longer run [] h l = omega arith
    longer run (next ∷ runs) h l = (omega (arith, h.0), h.1, h.2)

    two : (run.first ≡ suc x → ⊥) → x + 2 ≤ run.first
    two d = elim (cases_eq run.first (suc x)) [ inl e ↦ absurd (d e) | inr k ↦ omega (arith, k) ]

tail_ascends : (x : ℕ) (xs : List ℕ) → Ascends (x ∷ xs) → Ascends xs
tail_ascends x [] h = tt
tail_ascends x (y ∷ ys) h = h.1

pub runs_are_apart : (xs : List ℕ) → Ascends xs → AreApart (runs_of xs)
runs_are_apart [] h = tt
runs_are_apart (x ∷ xs) h = apart_with x (runs_of xs) (runs_are_apart xs (tail_ascends x xs h)) (above x xs h)

pub lists_are_runs : (xs : List ℕ) → Ascends xs → numbers_of (runs_of xs) ≡ xs
lists_are_runs [] h = refl
lists_are_runs (x ∷ xs) h =
    let k = tail_ascends x xs h in
    numbers_with x (runs_of xs) (runs_are_apart xs k) ∙ ap (λ ys. x ∷ ys) (lists_are_runs xs k)

-- ---- from runs to numbers and back

-- the first run, if there is one, begins at least 2 past
abbrev BeginsPast : ℕ → List Run → Type 0
BeginsPast b [] = Unit {0}
BeginsPast b (run ∷ runs) = b + 2 ≤ run.first

start_of : (a : ℕ) (runs : List Run) → BeginsPast a runs → with_number a runs ≡ run_from a a ∷ runs
start_of a [] l = refl
start_of a (run ∷ runs) l = alone a run runs (λ e. absurd (omega arith))

nearer : (a b : ℕ) (runs : List Run) → a ≤ b → BeginsPast b runs → BeginsPast a runs
nearer a b [] l h = tt
nearer a b (run ∷ runs) l h = omega arith

runs_of_range : (a n : ℕ) (tail : List ℕ) (runs : List Run) → runs_of tail ≡ runs → BeginsPast (a + n) runs → runs_of (range_with_len a (suc n) ++ tail) ≡ run_from a (a + n) ∷ runs
runs_of_range a zero tail runs e l =
    let same : a + 0 ≡ a = omega arith in
    ap (with_number a) e ∙ start_of a runs (nearer a (a + 0) runs (omega arith) l) ∙ ap (λ b. run_from a b ∷ runs) (sym same)
runs_of_range a (suc n) tail runs e l =
    let same : (a + 1) + n ≡ a + suc n = omega arith in
    let rest = runs_of_range (a + 1) n tail runs e (subst (λ b. BeginsPast b runs) (sym same) l) in
    let next : a + 1 ≡ suc a = omega arith in
    ap (with_number a) rest ∙ joined a (run_from (a + 1) ((a + 1) + n)) runs next ∙ ap (λ b. run_from a b ∷ runs) same

past : (run : Run) (runs : List Run) → AreApart (run ∷ runs) → BeginsPast run.last runs
past run [] h = tt
past run (next ∷ runs) h = h.1

tail_apart : (run : Run) (runs : List Run) → AreApart (run ∷ runs) → AreApart runs
tail_apart run [] h = tt
tail_apart run (next ∷ runs) h = h.2

first_below : (run : Run) (runs : List Run) → AreApart (run ∷ runs) → run.first ≤ run.last
first_below run [] h = h
first_below run (next ∷ runs) h = h.0

pub runs_are_lists : (runs : List Run) → AreApart runs → runs_of (numbers_of runs) ≡ runs
runs_are_lists [] h = refl
runs_are_lists (run ∷ runs) h =
    let l = first_below run runs h in
    let e : run.first + (run.last - run.first) ≡ run.last = omega arith in
    runs_of_range run.first (run.last - run.first) (numbers_of runs) runs (runs_are_lists runs (tail_apart run runs h)) (subst (λ b. BeginsPast b runs) (sym e) (past run runs h))
    ∙ ap (λ b. run_from run.first b ∷ runs) e

-- ---- bounds

with_below : (d x : ℕ) (runs : List Run) → x < d → AllByRecursion (λ run. run.last < d) runs → AllByRecursion (λ run. run.last < d) (with_number x runs)
with_below d x [] l h = (l, tt)
with_below d x (run ∷ runs) l h = go (run.first == suc x)
  where
    go : (near : Bool) → AllByRecursion (λ run. run.last < d) (if near then run_from x run.last ∷ runs else run_from x x ∷ run ∷ runs)
    go true = h
    go false = (l, h)

pub runs_below : (d : ℕ) (xs : List ℕ) → AllByRecursion (λ x. x < d) xs → AllByRecursion (λ run. run.last < d) (runs_of xs)
runs_below d [] h = tt
runs_below d (x ∷ xs) h = with_below d x (runs_of xs) h.0 (runs_below d xs h.1)
