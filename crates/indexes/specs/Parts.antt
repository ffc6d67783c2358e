-- Some elements of a list, in its order.
use Rattle.std.specs.Prelude.{ℕ, List, [], ◌∷◌}

-- each element of the whole is taken or left out
pub data ArePartOf : List ℕ → List ℕ → Type 0 where
  none : ArePartOf [] []
  taken : {n : ℕ} {part whole : List ℕ} → ArePartOf part whole → ArePartOf (n ∷ part) (n ∷ whole)
  left_out : {n : ℕ} {part whole : List ℕ} → ArePartOf part whole → ArePartOf part (n ∷ whole)
