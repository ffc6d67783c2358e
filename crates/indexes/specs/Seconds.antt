-- Numbers of forms in the order of their second keys.
use Rattle.std.specs.Prelude.{ℕ, ◌+◌, List, slice_get, Option, Some, None}
use Rattle.std.specs.List.Sorted.{IsNonDecreasingBy}
use Rattle.normal_forms.specs.declared.forms.Form.{Form}
use Rattle.normal_forms.specs.declared.forms.Form.TheVariants.{N4, N6, N12}
use Rattle.indexes.specs.declared.keys.Key.{Key}
use Rattle.indexes.specs.declared.keys.Key.TheVariants.{Whole, Partial}
use Rattle.indexes.specs.Keys.{individual_key, property_key}

-- the property of a restriction, the second property of a chain, the target of a pair that is denied
abbrev pub second_key : Form → Key
second_key (N4 r _ _) = Whole r.0
second_key (N6 _ s _) = property_key s
second_key (N12 _ _ b) = individual_key b
second_key _ = Whole 0

-- the place of a key among the keys of both kinds
abbrev pub rank : Key → ℕ
rank (Whole n) = n + n
rank (Partial n) = n + n + 1

abbrev pub form_rank : Option Form → ℕ
form_rank None = 0
form_rank (Some form) = rank (second_key form)

-- that of the second key of the form of the number
abbrev pub rank_at : List Form → ℕ → ℕ
rank_at forms n = form_rank (slice_get forms n)

abbrev pub IsInOrder : List Form → List ℕ → Type 0
IsInOrder forms numbers = IsNonDecreasingBy (rank_at forms) numbers
