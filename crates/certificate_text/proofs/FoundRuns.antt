-- Runs as they are found from the left.
use Rattle.std.proofs.Common.{◌≡◌, ℕ, suc, ◌==◌, Bool, true, false, List, [], ◌∷◌, if◌then◌else◌, refl, sym, ap, ◌∙◌}
use Rattle.certificate.specs.Runs.{Run, with_number, runs_of}
use Rattle.certificate.proofs.Runs.{run_from}

-- the numbers from a to b, and the runs of others behind them
abbrev pub pending : ℕ → ℕ → List ℕ → List Run
pending a b [] = run_from a b ∷ []
pending a b (x ∷ xs) = if x == suc b then pending a x xs else run_from a b ∷ pending x x xs

abbrev extended : ℕ → ℕ → List Run → List Run
extended a b [] = run_from a b ∷ []
extended a b (run ∷ runs) = if run.first == suc b then run_from a run.last ∷ runs else run_from a b ∷ run ∷ runs

-- a number comes into the first run or begins one, and either way stands first
extended_with : (a b x : ℕ) (runs : List Run) (is : Bool) → (x == suc b) ≡ is
    → extended a b (with_number x runs) ≡ (if is then extended a x runs else run_from a b ∷ with_number x runs)
extended_with a b x [] true e = rw e refl
extended_with a b x [] false e = rw e refl
extended_with a b x (run ∷ runs) is e = go (run.first == suc x) is e
  where
    go : (near is : Bool) → (x == suc b) ≡ is
        → extended a b (if near then run_from x run.last ∷ runs else run_from x x ∷ run ∷ runs)
        ≡ (if is then (if near then run_from a run.last ∷ runs else run_from a x ∷ run ∷ runs) else run_from a b ∷ (if near then run_from x run.last ∷ runs else run_from x x ∷ run ∷ runs))
    go true true e = rw e refl
    go true false e = rw e refl
    go false true e = rw e refl
    go false false e = rw e refl

own : (x : ℕ) (runs : List Run) → extended x x runs ≡ with_number x runs
own x [] = refl
own x (run ∷ runs) = refl

pending_is : (a b : ℕ) (xs : List ℕ) → pending a b xs ≡ extended a b (runs_of xs)
pending_is a b [] = refl
pending_is a b (x ∷ xs) = both (x == suc b) (pending_is a x xs) (pending_is x x xs) ∙ sym (extended_with a b x (runs_of xs) (x == suc b) refl)
  where
    both : (is : Bool) → pending a x xs ≡ extended a x (runs_of xs) → pending x x xs ≡ extended x x (runs_of xs)
        → (if is then pending a x xs else run_from a b ∷ pending x x xs) ≡ (if is then extended a x (runs_of xs) else run_from a b ∷ with_number x (runs_of xs))
    both true h k = h
    both false h k = ap (λ runs. run_from a b ∷ runs) (k ∙ own x (runs_of xs))

pub runs_from : (x : ℕ) (xs : List ℕ) → runs_of (x ∷ xs) ≡ pending x x xs
runs_from x xs = sym (pending_is x x xs ∙ own x (runs_of xs))
