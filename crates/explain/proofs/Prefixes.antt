-- Prefixes of intersections and of chains: one element, more, or the whole.
use Rattle.std.proofs.Common.{◌≡◌, ℕ, ◌<◌, List, [], ◌∷◌, length, slice_index, take, Bool, true, false, ◌==◌, if◌then◌else◌, refl, arith, eqb-true}

pub take_one : (xs : List ℕ) (n : ℕ) → n ≡ 1 → n < length xs → slice_index xs 0 ∷ [] ≡ take n xs
take_one [] n e l = absurd (omega arith)
take_one (x ∷ xs) n e l = rw e

-- what holds of the three parts of a prefix holds of it
pub at_first : {X : Type 0} (P : X → Type 0) (n l : ℕ) (a b c : X) → (n ≡ l → P a) → (n ≡ 1 → P b) → P c → P (if n == l then a else (if n == 1 then b else c))
at_first {X} P n l a b c f g h = go (n == l) (n == 1) (eqb-true n l) (eqb-true n 1)
  where
    go : (s t : Bool) → (s ≡ true → n ≡ l) → (t ≡ true → n ≡ 1) → P (if s then a else (if t then b else c))
    go true t p q = f (p refl)
    go false true p q = g (q refl)
    go false false p q = h
