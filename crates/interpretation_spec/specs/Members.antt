-- The members of sets in ascending order, and which classes have elements.
use Rattle.std.specs.Prelude.{ℕ, List, Bool}
use Rattle.std.specs.List.{filter, list_any, range_with_len}
use Rattle.interpretation_spec.specs.NumberedInterpretation.{NumberedInterpretation, members_of}
use Rattle.number_sets.specs.Members.{has}

-- the members of the set that are below a number, ascending
abbrev pub members_below : List Bool → ℕ → List ℕ
members_below set n = filter (has set) (range_with_len 0 n)

-- whether the set has a member
abbrev pub has_some : List Bool → Bool
has_some set = list_any (λ b. b) set

-- whether some element is in the class of that number
abbrev pub has_elements : NumberedInterpretation → ℕ → Bool
has_elements i c = has_some (members_of i c)
