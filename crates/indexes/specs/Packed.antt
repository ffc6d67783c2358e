-- Lists in one piece of memory, by where each stands.
use Rattle.std.specs.Prelude.{ℕ, ◌≤◌, List, [], ◌∷◌, slice_range}
use Rattle.indexes.specs.declared.packed.Span.{Span}

-- what stands there
abbrev pub standing : List ℕ → Span → List ℕ
standing numbers span = slice_range numbers span.start span.end

-- no list reaches into the next, and the last ends within all
abbrev pub AreApart : ℕ → List Span → ℕ → Type 0
AreApart from [] total = from ≤ total
AreApart from (span ∷ spans) total = (from ≤ span.start) × (span.start ≤ span.end) × AreApart span.end spans total
