-- No condition has more than two facts before it.
use Rattle.std.proofs.Common.{ℕ, ◌≤◌, List, [], ◌∷◌, length, Option, arith}
use Rattle.facts.specs.declared.contexts.Fact.{Fact}
use Rattle.facts.specs.Closure.{Problem, Gives, in_thing, in_itself, by_form, unsatisfiable, loop}

pub no_three : {k : Problem} {c : ℕ} {form : Option ℕ} {f g h : Fact} {more : List Fact} {new : Fact} → Gives k c form (f ∷ g ∷ h ∷ more) new → ⊥
no_three (in_thing c) = c
no_three (in_itself c) = c
no_three (by_form n form at gives) = gives
no_three (unsatisfiable b) = b
no_three (loop x n form at l c) = c

pub two_suffice : (k : Problem) (condition : ℕ) (form : Option ℕ) (older : List Fact) (f : Fact) → Gives k condition form older f → length older ≤ 2
two_suffice k condition form [] f g = omega arith
two_suffice k condition form (x ∷ []) f g = omega arith
two_suffice k condition form (x ∷ y ∷ []) f g = omega arith
two_suffice k condition form (x ∷ y ∷ z ∷ more) f g = absurd (no_three g)
