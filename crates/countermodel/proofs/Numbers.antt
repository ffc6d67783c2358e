-- Ascending numbers.
use Rattle.std.proofs.Common.{ℕ, ◌<◌, List, [], ◌∷◌, AllPairs, arith}
use Rattle.lemmas.proofs.Pairs.{AllPairs-tail}
use Rattle.certificate.specs.Writability.{Ascends}

pub Ascends-from_pairs : (xs : List ℕ) → AllPairs (λ x y. x < y) xs → Ascends xs
Ascends-from_pairs [] h = tt
Ascends-from_pairs (x ∷ []) h = tt
Ascends-from_pairs (x ∷ y ∷ ys) h = (h 0 1 0 (omega arith) (omega arith), Ascends-from_pairs (y ∷ ys) (AllPairs-tail (λ a b. a < b) x (y ∷ ys) h))
