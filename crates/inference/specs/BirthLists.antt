-- Lists of what gave facts.
use Rattle.std.specs.Prelude.{ℕ, List, [], ◌++◌, take}
use Rattle.facts.specs.Births.{Reason}
use Rattle.facts.specs.declared.births.Birth.{Birth}
use Rattle.inference.specs.declared.birth_list.Shared.{Shared}
use Rattle.inference.specs.declared.birth_list.Shared.TheVariants as the

-- what gave facts, in their order, and for how many more there is room
pub record Listed : Type 0 where
  pub reasons : List Reason
  pub room : ℕ

abbrev pub shared_births : Shared → List Birth
shared_births the.Nothing = []
shared_births (the.Births births) = births.value.items

-- the first so many of those that are shared, and then a list's own
abbrev pub births_of : List Birth → ℕ → List Birth → List Birth
births_of shared many own = take many shared ++ own
