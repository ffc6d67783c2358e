use Rattle.std.proofs.Common.{ℕ, ◌+◌, ◌*◌, List, Bool, length, get_or, ap, sym, ◌∙◌, arith}
use Rattle.number_sets.specs.Members.{has}
use Rattle.number_sets.specs.RowWords.{words_of}
use Rattle.number_sets.specs.Words.{is_set}
use Rattle.number_sets.proofs.Bits.{at_place, has_bits, length_bits}
use Rattle.number_sets.proofs.row.Row.words.Goals as goal

pub returns-clause-many : goal.returns-clause-many
returns-clause-many c =
    let words = (words_of c.self.inside.words) in
    let long = length_bits c.self.inside.len words in
    omega (arith, ap length c.as_slice.ensures, ap length c.self.view_is, long, c.self.invariant.long, c.self.invariant.short)

pub returns-clause-bits : goal.returns-clause-bits
returns-clause-bits c = λ j k l.
    let n = c.self.inside.len in
    let words = (words_of c.self.inside.words) in
    ap (λ (ws : List ℕ). is_set (get_or ws j 0) k) c.as_slice.ensures
    ∙ sym (at_place words j k l)
    ∙ sym (has_bits n words c.self.invariant (64 * j + k))
    ∙ ap (λ (row : List Bool). has row (64 * j + k)) c.self.view_is
