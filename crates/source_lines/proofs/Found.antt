-- What a search for a line feed says of the bytes up to it.
use Rattle.std.proofs.Common.{◌≡◌, ℕ, ◌+◌, ◌-◌, ◌<◌, ◌≤◌, List, [], ◌∷◌, ◌++◌, length, get_or, take, Some, sym, ap, ◌∙◌, subst, arith}
use Rattle.std.specs.Prelude.{slice_range}
use Rattle.std.proofs.lemmas.Bool.{eqb-true, eq-eqb}
use Rattle.std.proofs.lemmas.List.{length-take-le, get_or-take, get_or_default, take_more}
use Rattle.memchr.specs.Find.{IsFirstByte, is_byte}
use Rattle.source_lines.specs.Lines.{IsWholeLine}
use Rattle.source_lines.specs.Places.{IsLineTo}
use Rattle.source_lines.proofs.Ranges.{length-range, take-range}

-- up to its first line feed a text is a whole line
pub first_line : (bytes : List ℕ) (k : ℕ) → IsFirstByte (is_byte 10) bytes (Some k) → IsWholeLine (take (k + 1) bytes)
first_line bytes k h =
    let long : length (take k bytes) ≡ k = length-take-le k bytes (omega (arith, h.0.high)) in
    record {
      front = take k bytes;
      ended = take_more bytes k 0 h.0.high ∙ ap (λ (x : ℕ). take k bytes ++ x ∷ []) (eqb-true (get_or bytes k 0) 10 h.1);
      single = λ c.
          let below : c.0 < k = omega (arith, c.1, long) in
          let is : get_or bytes c.0 0 ≡ 10 = get_or_default bytes c.0 0 10 (omega (arith, h.0.high)) ∙ sym (get_or-take k bytes c.0 10 below) ∙ c.2 in
          h.0.before c.0 (omega arith) below (eq-eqb _ 10 is);
    }

-- the same of a part of the text
pub first_line_from : (buffer : List ℕ) (from filled k : ℕ) → from ≤ filled → filled ≤ length buffer → IsFirstByte (is_byte 10) (slice_range buffer from filled) (Some k)
    → IsLineTo buffer from (from + k + 1) filled
first_line_from buffer from filled k low high h =
    let below : k < filled - from = omega (arith, h.0.high, length-range buffer from filled low high) in
    let to : from + (k + 1) ≡ from + k + 1 = omega arith in
    record {
      some = omega arith;
      within = omega (arith, below);
      whole = subst IsWholeLine (take-range buffer from filled (k + 1) (omega (arith, below)) ∙ ap (slice_range buffer from) to) (first_line (slice_range buffer from filled) k h);
    }
