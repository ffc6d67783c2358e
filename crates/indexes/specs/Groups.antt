-- Individuals that forms make one.
use Rattle.std.specs.Prelude.{Bool, true, false, ◌<◌, ◌≤◌, ℕ, List, slice_index_or}
use Rattle.std.specs.List.{filter}
use Rattle.axioms.specs.declared.ids.IndId.{IndId}
use Rattle.normal_forms.specs.declared.forms.Form.{Form}
use Rattle.normal_forms.specs.declared.forms.Form.TheVariants.{N10}
use Rattle.facts.specs.Closure.{AreSame}

-- the form makes two individuals one
abbrev pub is_link : Form → Bool
is_link (N10 a b) = true
is_link _ = false

-- those of the forms that do
abbrev pub links : List Form → List Form
links forms = filter is_link forms

-- the individuals that the form makes one are below the number
abbrev pub IsBelow : ℕ → Form → Type 0
IsBelow n (N10 a b) = (a.0 < n) × (b.0 < n)
IsBelow n _ = Unit {0}

-- the individual that the table has for that one: past its end the same
abbrev pub least_in : List ℕ → IndId → IndId
least_in table a = record { 0 = slice_index_or table a.0 a.0 }

-- the table has of each individual the least that is one with it
pub record AreLeast (forms : List Form) (table : List ℕ) : Type 0 where
  pub same : (a : IndId) → AreSame forms a (least_in table a)
  pub low : (a b : IndId) → AreSame forms a b → (least_in table a).0 ≤ b.0
