-- A circle of three numbers.
use Rattle.std.proofs.Common.{ℕ, zero, suc, [], ◌∷◌, arith}
use Rattle.lemmas.proofs.Members.{Contains-none, Contains-one}
use Rattle.number_sets.specs.Search.{IsBounded}

pub circle_bounded : IsBounded (λ (n : ℕ). n) ((1 ∷ []) ∷ (2 ∷ []) ∷ (0 ∷ []) ∷ [])
circle_bounded zero n c = omega (arith, Contains-one 1 n c)
circle_bounded (suc zero) n c = omega (arith, Contains-one 2 n c)
circle_bounded (suc (suc zero)) n c = omega (arith, Contains-one 0 n c)
circle_bounded (suc (suc (suc b))) n c = absurd (Contains-none n c)
