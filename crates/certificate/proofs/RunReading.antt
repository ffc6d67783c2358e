-- The loop that reads runs and puts their ends behind one another.
use Rattle.std.proofs.Common.{◌≡◌, ℕ, zero, suc, ◌+◌, ◌-◌, ◌<◌, ◌≤◌, true, ltb, ◌&&◌, List, [], ◌∷◌, ◌++◌, length, Option, Some, None, refl, sym, ap, subst, ◌∙◌, append_assoc, arith}
use Rattle.std.proofs.lemmas.Bool.{ltb-true, lt-ltb, le-ltb, and_parts, and_from}
use Rattle.std.specs.List.{range_with_len}
use Rattle.std.proofs.lemmas.List.{append-nil}
use Rattle.std.proofs.lemmas.List.Concat.{flat_map-append}
use Rattle.certificate.specs.Runs.{Run, numbers_in, numbers_of}
use Rattle.certificate.specs.Held.{spread, held_in}
use Rattle.certificate.specs.HeldReading.{HoldsRuns, HoldsElements}
use Rattle.certificate.specs.Tests.{is_after, ascend}
use Rattle.certificate.specs.Certificate.{Two}
use Rattle.certificate.specs.Reading.{◌>>=◌}
use Rattle.certificate.specs.ListedReading.{fits_run, next_run_at, runs_at, elements_at}
use Rattle.certificate.proofs.Many.{Chain, IsReadSoFar, last_or, last_push, none_read, one_more_read, all_read, shorter}
use Rattle.certificate.proofs.Derivations.{EndsLine}
use Rattle.certificate.proofs.RowLaws.{EndsRun, IsRunAfter, each_run_reads, runs_reads}
use Rattle.certificate.specs.Text.{run_text}

-- ---- the numbers of a run

pub no_range : (a n : ℕ) → n ≡ a → range_with_len a (n - a) ≡ []
no_range a n e = let none : n - a ≡ 0 = omega arith in ap (range_with_len a) none

range_push : (a n : ℕ) → range_with_len a (suc n) ≡ range_with_len a n ++ (a + n) ∷ []
range_push a zero = let e : a ≡ a + 0 = omega arith in ap (λ (m : ℕ). m ∷ []) e
range_push a (suc n) =
    let e : (a + 1) + n ≡ a + suc n = omega arith in
    ap (λ (xs : List ℕ). a ∷ xs) (range_push (a + 1) n) ∙ ap (λ (m : ℕ). a ∷ (range_with_len (a + 1) n ++ m ∷ [])) e

pub range_more : (a n : ℕ) → a ≤ n → range_with_len a (suc (n - a)) ≡ range_with_len a (n - a) ++ n ∷ []
range_more a n le = let e : a + (n - a) ≡ n = omega arith in range_push a (n - a) ∙ ap (λ (m : ℕ). range_with_len a (n - a) ++ m ∷ []) e

-- ---- runs one after another

-- the last and the first number of each
abbrev pub ends_of : List Run → List ℕ
ends_of [] = []
ends_of (run ∷ runs) = run.last ∷ run.first ∷ ends_of runs

ends_push : (runs : List Run) (run : Run) → ends_of (runs ++ run ∷ []) ≡ ends_of runs ++ run.last ∷ run.first ∷ []
ends_push [] run = refl
ends_push (next ∷ runs) run = ap (λ (xs : List ℕ). next.last ∷ next.first ∷ xs) (ends_push runs run)

spread_ends : (runs : List Run) → spread (ends_of runs) ≡ numbers_of runs
spread_ends [] = refl
spread_ends (run ∷ runs) = ap (λ (xs : List ℕ). numbers_in run ++ xs) (spread_ends runs)

numbers_push : (runs : List Run) (run : Run) → numbers_of (runs ++ run ∷ []) ≡ numbers_of runs ++ numbers_in run
numbers_push runs run = flat_map-append numbers_in runs (run ∷ []) ∙ ap (λ (xs : List ℕ). numbers_of runs ++ xs) (append-nil (numbers_in run))

-- what is held of the runs so far is what `write` makes of them
pub record AreRunsSoFar (write : List Run → List ℕ) (d : ℕ) (bytes held : List ℕ) (before : Option Run) (rest : List ℕ) : Type 0 where
  pub runs : List Run
  pub so_far : IsReadSoFar (next_run_at d) bytes runs rest
  pub held_are : held ≡ write runs
  pub last : before ≡ last_or None runs

no_runs : (write : List Run → List ℕ) (d : ℕ) (bytes held : List ℕ) → held ≡ write [] → AreRunsSoFar write d bytes held None bytes
no_runs write d bytes held e = record { runs = []; so_far = none_read (next_run_at d) bytes; held_are = e; last = refl }

next_run : (write : List Run → List ℕ) (one : Run → List ℕ) → ((runs : List Run) (run : Run) → write (runs ++ run ∷ []) ≡ write runs ++ one run) → (d : ℕ) (bytes held new : List ℕ) (before : Option Run) (rest : List ℕ) (run : Run) (mid : List ℕ)
    → AreRunsSoFar write d bytes held before rest → next_run_at d before rest ≡ Some (run, mid) → new ≡ held ++ one run → AreRunsSoFar write d bytes new (Some run) mid
next_run write one push d bytes held new before rest run mid h e n = record {
  runs = h.runs ++ run ∷ [];
  so_far = one_more_read (next_run_at d) bytes h.runs rest run mid h.so_far (subst (λ b. next_run_at d b rest ≡ Some (run, mid)) h.last e);
  held_are = n ∙ ap (λ (xs : List ℕ). xs ++ one run) h.held_are ∙ sym (push h.runs run);
  last = sym (last_push None h.runs run);
}

-- their ends
abbrev pub AreEndsSoFar : ℕ → List ℕ → List ℕ → Option Run → List ℕ → Type 0
AreEndsSoFar = AreRunsSoFar ends_of

pub no_runs_yet : (d : ℕ) (bytes ends : List ℕ) → ends ≡ [] → AreEndsSoFar d bytes ends None bytes
no_runs_yet d bytes ends e = no_runs ends_of d bytes ends e

pub one_more_run : (d : ℕ) (bytes ends one new : List ℕ) (before : Option Run) (rest : List ℕ) (run : Run) (mid : List ℕ) → AreEndsSoFar d bytes ends before rest → next_run_at d before rest ≡ Some (run, mid)
    → one ≡ ends ++ run.last ∷ [] → new ≡ one ++ run.first ∷ [] → AreEndsSoFar d bytes new (Some run) mid
one_more_run d bytes ends one new before rest run mid h e n m =
    next_run ends_of (λ r. r.last ∷ r.first ∷ []) ends_push d bytes ends new before rest run mid h e
    (m ∙ ap (λ (xs : List ℕ). xs ++ run.first ∷ []) n ∙ append_assoc ends (run.last ∷ []) (run.first ∷ []))

-- their numbers
abbrev pub AreNumbersSoFar : ℕ → List ℕ → List ℕ → Option Run → List ℕ → Type 0
AreNumbersSoFar = AreRunsSoFar numbers_of

pub no_numbers_yet : (d : ℕ) (bytes numbers : List ℕ) → numbers ≡ [] → AreNumbersSoFar d bytes numbers None bytes
no_numbers_yet d bytes numbers e = no_runs numbers_of d bytes numbers e

pub numbers_of_one_more : (d : ℕ) (bytes numbers new : List ℕ) (before : Option Run) (rest : List ℕ) (run : Run) (mid : List ℕ) → AreNumbersSoFar d bytes numbers before rest
    → next_run_at d before rest ≡ Some (run, mid) → new ≡ numbers ++ numbers_in run → AreNumbersSoFar d bytes new (Some run) mid
numbers_of_one_more d bytes numbers new before rest run mid h e n = next_run numbers_of numbers_in numbers_push d bytes numbers new before rest run mid h e n

pub less_of_runs : (d : ℕ) (before : Option Run) (rest : List ℕ) (run : Run) (mid : List ℕ) → next_run_at d before rest ≡ Some (run, mid) → length mid < length rest
less_of_runs d before rest run mid e = shorter EndsRun EndsLine (IsRunAfter d) run_text (next_run_at d) (each_run_reads d) before rest run mid e

pub run_in_order : (d : ℕ) (before : Option Run) (rest : List ℕ) (run : Run) (mid : List ℕ) → next_run_at d before rest ≡ Some (run, mid) → run.first ≤ run.last
run_in_order d before rest run mid e = (((each_run_reads d).each before).takes rest run mid e).1.0.1.1

-- ---- the numbers of runs that follow one another ascend

-- the last number before the run, if there is one
abbrev last_before : Option Run → Option ℕ
last_before None = None
last_before (Some run) = Some run.last

ascend_range : (d a n : ℕ) (last : Option ℕ) (tail : List ℕ) → is_after last a ≡ true → a + n < d → ascend d (Some (a + n)) tail ≡ true → ascend d last (range_with_len a (suc n) ++ tail) ≡ true
ascend_range d a zero last tail after below t =
    let same : a + 0 ≡ a = omega arith in
    and_from (ltb a d && is_after last a) (ascend d (Some a) tail) (and_from (ltb a d) (is_after last a) (lt-ltb a d (omega arith)) after) (subst (λ b. ascend d (Some b) tail ≡ true) same t)
ascend_range d a (suc n) last tail after below t =
    let same : a + suc n ≡ (a + 1) + n = omega arith in
    let rest = ascend_range d (a + 1) n (Some a) tail (lt-ltb a (a + 1) (omega arith)) (omega arith) (subst (λ b. ascend d (Some b) tail ≡ true) same t) in
    and_from (ltb a d && is_after last a) _ (and_from (ltb a d) (is_after last a) (lt-ltb a d (omega arith)) after) rest

comes_after : (d : ℕ) (last : Option Run) (run : Run) → fits_run d last run ≡ true → (is_after (last_before last) run.first ≡ true) × (run.last < d)
comes_after d None run t = (refl, ltb-true run.last d t)
comes_after d (Some before) run t =
    let p = and_parts (ltb run.last d) (ltb (before.last + 1) run.first) t in
    let past : before.last + 1 < run.first = ltb-true (before.last + 1) run.first p.1 in
    (lt-ltb before.last run.first (omega arith), ltb-true run.last d p.0)

runs_ascend : (d : ℕ) (last : Option Run) (runs : List Run) → Chain (IsRunAfter d) last runs → ascend d (last_before last) (numbers_of runs) ≡ true
runs_ascend d last [] c = refl
runs_ascend d last (run ∷ runs) c =
    let a = comes_after d last run c.0.1 in
    let l : run.first ≤ run.last = c.0.0.1.1 in
    let end : run.first + (run.last - run.first) ≡ run.last = omega arith in
    ascend_range d run.first (run.last - run.first) (last_before last) (numbers_of runs) a.0 (omega (arith, a.1, end))
    (subst (λ b. ascend d (Some b) (numbers_of runs) ≡ true) (sym end) (runs_ascend d (Some run) runs c.1))

-- ---- all of them

held_ends : (d : ℕ) (last : Option Run) (runs : List Run) → Chain (IsRunAfter d) last runs → held_in (ends_of runs) ≡ spread (ends_of runs)
held_ends d last [] c = refl
held_ends d last (run ∷ runs) c =
    let l : run.first ≤ run.last = c.0.0.1.1 in
    rw (le-ltb run.last run.first l) refl

-- .. are all, where no run comes next
record AreAllRuns (d : ℕ) (bytes : List ℕ) (runs : List Run) (rest : List ℕ) : Type 0 where
  read : elements_at Two d bytes ≡ Some (numbers_of runs, rest)
  chain : Chain (IsRunAfter d) None runs

no_run_left : (write : List Run → List ℕ) (d : ℕ) (bytes held : List ℕ) (before : Option Run) (rest : List ℕ) (h : AreRunsSoFar write d bytes held before rest) → next_run_at d before rest ≡ None → AreAllRuns d bytes h.runs rest
unfolding elements_at runs_at
no_run_left write d bytes held before rest h e =
    let read = all_read EndsRun EndsLine (IsRunAfter d) run_text (next_run_at d) (each_run_reads d) bytes h.runs rest h.so_far (subst (λ b. next_run_at d b rest ≡ None) h.last e) in
    record { read = ap (λ o. o >>= λ x. Some (numbers_of x.0, x.1)) read; chain = ((runs_reads d).takes bytes h.runs rest read).1 }

pub all_runs : (d : ℕ) (bytes ends : List ℕ) (before : Option Run) (rest : List ℕ) → AreEndsSoFar d bytes ends before rest → next_run_at d before rest ≡ None → HoldsRuns d bytes ends rest
all_runs d bytes ends before rest h e =
    let all = no_run_left ends_of d bytes ends before rest h e in
    let numbers : spread ends ≡ numbers_of h.runs = ap spread h.held_are ∙ spread_ends h.runs in
    record {
      read = all.read ∙ ap (λ (xs : List ℕ). Some (xs, rest)) (sym numbers);
      held = subst (λ (xs : List ℕ). held_in xs ≡ spread xs) (sym h.held_are) (held_ends d None h.runs all.chain);
      ascend = subst (λ (xs : List ℕ). ascend d None xs ≡ true) (sym numbers) (runs_ascend d None h.runs all.chain);
    }

-- ---- what ascends is held as it is

pub held_ascending : (d : ℕ) (xs : List ℕ) → ascend d None xs ≡ true → held_in xs ≡ xs
held_ascending d [] t = refl
held_ascending d (x ∷ []) t = refl
held_ascending d (x ∷ y ∷ xs) t =
    let p = and_parts (ltb x d && true) (ascend d (Some x) (y ∷ xs)) t in
    let q = and_parts (ltb y d && ltb x y) (ascend d (Some y) xs) p.1 in
    let r = and_parts (ltb y d) (ltb x y) q.0 in
    rw r.1 refl

-- .. and as they are read
pub all_numbers : (d : ℕ) (bytes numbers : List ℕ) (before : Option Run) (rest : List ℕ) → AreNumbersSoFar d bytes numbers before rest → next_run_at d before rest ≡ None → HoldsElements d bytes numbers rest
all_numbers d bytes numbers before rest h e =
    let all = no_run_left numbers_of d bytes numbers before rest h e in
    let up : ascend d None numbers ≡ true = subst (λ (xs : List ℕ). ascend d None xs ≡ true) (sym h.held_are) (runs_ascend d None h.runs all.chain) in
    let own : held_in numbers ≡ numbers = held_ascending d numbers up in
    record {
      read = all.read ∙ ap (λ (xs : List ℕ). Some (xs, rest)) (sym (own ∙ h.held_are));
      ascend = subst (λ (xs : List ℕ). ascend d None xs ≡ true) (sym own) up;
    }
