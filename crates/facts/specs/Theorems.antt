-- What is proved of the closure.
use Rattle.std.specs.Prelude.{◌≡◌, ◌≤◌, ℕ, List, length, Option, Bool, true}
use Rattle.std.specs.List.{All}
use Rattle.facts.specs.declared.contexts.Fact.{Fact}
use Rattle.facts.specs.Closure.{Problem, Gives, IsFact}

-- the closure has what its facts give
abbrev pub ClosureIsClosed : Type 0
ClosureIsClosed =
    (k : Problem) (condition : ℕ) (form : Option ℕ) (older : List Fact) (f : Fact) →
    Gives k condition form older f → All (IsFact k) older → IsFact k f

-- the closure lies in every set that has what its members give
abbrev pub ClosureIsLeast : Type 0
ClosureIsLeast =
    (k : Problem) (is_there : Fact → Bool) →
    ((condition : ℕ) (form : Option ℕ) (older : List Fact) (f : Fact) → Gives k condition form older f → All (λ g. is_there g ≡ true) older → is_there f ≡ true) →
    (f : Fact) → IsFact k f → is_there f ≡ true

-- a fact is given by two facts at most
abbrev pub TwoFactsSuffice : Type 0
TwoFactsSuffice = (k : Problem) (condition : ℕ) (form : Option ℕ) (older : List Fact) (f : Fact) → Gives k condition form older f → length older ≤ 2
