-- Numbers in a row, and elements with their numbers.
use Rattle.std.proofs.Common.{◌≡◌, ℕ, ◌+◌, List, [], ◌∷◌, ◌++◌, length, ap, ◌∙◌, arith}
use Rattle.std.specs.List.{range_with_len, enumerate_from}
use Rattle.std.proofs.lemmas.List.{map-id}
use Rattle.std.proofs.lemmas.List.FromFn.{map-range_with_len_more}

-- one number more
pub range_push : (n : ℕ) → range_with_len 0 (n + 1) ≡ range_with_len 0 n ++ n ∷ []
range_push n = simp map-id at (map-range_with_len_more (λ x. x) 0 n n (omega arith))

-- one element more with its number
pub enumerate_push : {X : Type 0} (a : ℕ) (xs : List X) (x : X) → enumerate_from a (xs ++ x ∷ []) ≡ enumerate_from a xs ++ (a + length xs, x) ∷ []
enumerate_push a [] x = let e : a ≡ a + 0 = omega arith in ap (λ m. (m, x) ∷ []) e
enumerate_push a (y ∷ xs) x =
    let e : (a + 1) + length xs ≡ a + length (y ∷ xs) = omega arith in
    ap (λ ps. (a, y) ∷ ps) (enumerate_push (a + 1) xs x ∙ ap (λ m. enumerate_from (a + 1) xs ++ (m, x) ∷ []) e)
