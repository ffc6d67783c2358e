-- Numbers in ascending order.
use Rattle.std.proofs.Common.{◌≡◌, ℕ, List, [], ◌∷◌, AllPairs, sym, arith}
use Rattle.std.specs.Ordering.{nat_cmp}
use Rattle.std.proofs.lemmas.Cmp.{ranked}
use Rattle.std.specs.declared.cmp.Ordering.TheVariants.{Less}
use Rattle.lemmas.proofs.Pairs.{AllPairs-tail}
use Rattle.certificate.specs.Writability.{Ascends}

pub Ascends-from_pairs : (xs : List ℕ) → AllPairs (λ x y. nat_cmp x y ≡ Less) xs → Ascends xs
Ascends-from_pairs [] h = tt
Ascends-from_pairs (x ∷ []) h = tt
Ascends-from_pairs (x ∷ y ∷ ys) h =
    (ranked x y Less (sym (h 0 1 0 (omega arith) (omega arith))), Ascends-from_pairs (y ∷ ys) (AllPairs-tail (λ a b. nat_cmp a b ≡ Less) x (y ∷ ys) h))
