use Rattle.std.proofs.Common.{◌≤◌, ◌%◌, ℕ, false, nat_eq, length, sym, ap, ◌∙◌, arith}
use Rattle.std.specs.Int.{bit_at}
use Rattle.std.proofs.lemmas.List.{get_or_past}
use Rattle.std.proofs.lemmas.Nat.Bits.{shr_and_one}
use Rattle.number_sets.specs.RowWords.{words_of}
use Rattle.number_sets.specs.Words.{bits_of}
use Rattle.number_sets.proofs.Bits.{has_bits, length_bits}
use Rattle.number_sets.proofs.row.Row.contains.Goals as goal

pub returns-then-i-self : goal.returns-then-i-self
returns-then-i-self c =
    let n = c.self.inside.len in
    let words = (words_of c.self.inside.words) in
    let past : length (bits_of n words) ≤ c.args.i = omega (arith, length_bits n words) in
    rw (← c.self.view_is) (sym (get_or_past (bits_of n words) c.args.i false past))

pub returns : goal.returns
returns c =
    let words = (words_of c.self.inside.words) in
    let i = c.args.i in
    rw (← c.self.view_is) (
    ap (λ (b : ℕ). nat_eq b 1) (shr_and_one c.word.result (i % 64) ∙ ap (λ (w : ℕ). bit_at w (i % 64)) c.word.ensures)
    ∙ sym (has_bits c.self.inside.len words c.self.invariant i))
