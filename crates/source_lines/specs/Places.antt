-- Where the line at hand stands in the buffer of the lines of a source.
use Rattle.std.specs.Prelude.{ℕ, ◌<◌, ◌≤◌, List, slice_range}
use Rattle.source_lines.specs.Lines.{AtHand, IsWholeLine}

-- the line at hand, from one place of the buffer to another, and what was read behind it
abbrev pub at_hand : List ℕ → (start end filled : ℕ) → AtHand
at_hand buffer start end filled = record { line = slice_range buffer start end; ahead = slice_range buffer end filled }

-- a whole line stands from one place to another, below a third
pub record IsLineTo (buffer : List ℕ) (from end filled : ℕ) : Type 0 where
  pub some : from < end
  pub within : end ≤ filled
  pub whole : IsWholeLine (slice_range buffer from end)
