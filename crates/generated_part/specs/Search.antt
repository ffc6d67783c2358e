-- What pairs lead to from some elements.
use Rattle.std.specs.Prelude.{ℕ, List}
use Rattle.axioms.specs.declared.ids.PropId.{PropId}
use Rattle.number_sets.specs.Search.{LeadsTo}

-- where a pair leads to
abbrev pub target_of : PropId × ℕ → ℕ
target_of pair = pair.1

-- it is one of the first, or a pair of one that is found leads to it
abbrev pub IsFound : List ℕ → List (List (PropId × ℕ)) → ℕ → Type 0
IsFound first pairs x = LeadsTo (λ (n : ℕ). n) target_of first pairs x
