-- Lists in one piece of memory, by their places.
use Rattle.std.specs.Prelude.{◌≡◌, ℕ, ◌≤◌, List, length, map, slice_range}
use Rattle.normalise.specs.declared.spans.Span.{Span}

-- the numbers of the members that stand there
abbrev pub list_at : {T : Type 0} → (T → ℕ) → List T → Span → List ℕ
list_at number members s = map number (slice_range members s.start s.end)

abbrev pub IsSpanOf : {T : Type 0} → List T → Span → Type 0
IsSpanOf members s = (s.start ≤ s.end) × (s.end ≤ length members)

-- the list stands there
pub record IsListAt {T : Type 0} (number : T → ℕ) (members : List T) (s : Span) (list : List ℕ) : Type 0 where
  pub within : IsSpanOf members s
  pub listed : list_at number members s ≡ list
