-- Rows of classes of which those without elements have one in common.
use Rattle.std.specs.Prelude.{◌≡◌, ℕ, ◌<◌, List, [], Bool, true, false, map, length, slice_index_or}
use Rattle.interpretation_spec.specs.Members.{has_some}

-- the row of each class stands at its place
abbrev pub rows_at : List (List Bool) → List ℕ → List (List Bool)
rows_at rows places = map (λ place. slice_index_or rows place []) places

-- the first row is the one that classes without elements have in common; each other class has a row of its own, and but for the first
-- class, owl:Thing, that one has elements
pub record ArePlaced (rows : List (List Bool)) (places : List ℕ) : Type 0 where
  pub common : has_some (slice_index_or rows 0 []) ≡ false
  pub there : (c : ℕ) → slice_index_or places c 0 < length rows
  pub own : (c d : ℕ) → 0 < slice_index_or places c 0 → slice_index_or places c 0 ≡ slice_index_or places d 0 → c ≡ d
  pub used : (c : ℕ) → 0 < c → 0 < slice_index_or places c 0 → has_some (slice_index_or rows (slice_index_or places c 0) []) ≡ true
