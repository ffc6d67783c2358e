-- Numbers by the intervals that they lie in.
use Rattle.std.proofs.Common.{◌≡◌, ℕ, zero, suc, ◌+◌, ◌<◌, ◌≤◌, inl, inr, true, false, List, [], ◌∷◌, length, get_or, leb, AllPairs, Contains, refl, ap, subst, arith}
use Rattle.std.specs.List.Sorted.{IsPartitionedBy, IsPartitionPoint}
use Rattle.std.proofs.lemmas.Bool.{cases_lt, leb-true, le-leb}
use Rattle.std.proofs.lemmas.List.Elements.{All-contains}
use Rattle.lemmas.proofs.Members.{Contains-first, Contains-later}
use Rattle.lemmas.proofs.Pairs.{AllPairs-head}
use Rattle.listed_model.proofs.Given.{ascends_pairs}
use Rattle.certificate.specs.Certificate.{Listed}
use Rattle.certificate.specs.Writability.{Ascends}
use Rattle.narrowing.specs.Cut.{interval_of, AreStarts}

-- the starts that are at most the number stand first
pub parted : (starts : List ℕ) (x : ℕ) → AllPairs (λ a b. a < b) starts → IsPartitionedBy (λ s. leb s x) starts
parted starts x up i j d l m t =
    elim (cases_lt i j) [
      | inl b ↦ (let u = up i j d b m in let v = leb-true (get_or starts j d) x t in le-leb (get_or starts i d) x (omega arith))
      | inr b ↦ (let s : j ≡ i = omega arith in subst (λ (n : ℕ). leb (get_or starts n d) x ≡ true) s t)
    ]

pub interval_at : (starts : List ℕ) (x i : ℕ) → i ≤ length starts → IsPartitionPoint (λ s. leb s x ≡ true) (λ s. leb s x ≡ false) starts i → i ≡ interval_of starts x
interval_at [] x zero l at = refl
interval_at [] x (suc i) l at = absurd (omega arith)
interval_at (s ∷ ss) x zero l at = rw (at.1 0 0 (omega arith) (omega arith)) refl
interval_at (s ∷ ss) x (suc i) l at =
    rw (at.0 0 0 (omega arith) (omega arith))
    (ap suc (interval_at ss x i (omega arith) (λ k d a b. at.0 (suc k) d (omega arith) (omega arith), λ k d a b. at.1 (suc k) d (omega arith) (omega arith))))

-- ---- how many there are

rest : (x : ℕ) (xs : List ℕ) → Ascends (x ∷ xs) → Ascends xs
rest x [] h = tt
rest x (z ∷ zs) h = h.1

-- ascending numbers from one on and below another are no more than lie between
room : (low high : ℕ) (xs : List ℕ) → Ascends xs → ((x : ℕ) → Contains xs x → (low ≤ x) × (x < high)) → low ≤ high → length xs + low ≤ high
room low high [] up lie l = omega arith
room low high (x ∷ xs) up lie l =
    let here = lie x (Contains-first x xs) in
    let later : (y : ℕ) → Contains xs y → (suc x ≤ y) × (y < high) = λ y c. (All-contains (λ z. x < z) xs y (AllPairs-head (λ a b. a < b) x xs (ascends_pairs (x ∷ xs) up)) c, (lie y (Contains-later x y xs c)).1) in
    let more = room (suc x) high xs (rest x xs up) later here.1 in
    omega (arith, here.0, more)

pub few_intervals : (l : Listed) (starts : List ℕ) (n : ℕ) → AreStarts l starts → 1 ≤ n → l.domain ≤ n → length starts + 1 ≤ n
few_intervals l starts n are some fits =
    room 1 n starts are.ascend (λ x c. (let e = (are.exact x).0 c in (e.1, omega (arith, e.2)))) some
