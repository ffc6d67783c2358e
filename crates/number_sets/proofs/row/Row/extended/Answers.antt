use Rattle.std.proofs.Common.{◌≡◌, ◌-◌, ◌++◌, ◌≤◌, ℕ, Bool, List, false, length, replicate, ap, ap₂, ◌∙◌, arith}
use Rattle.number_sets.specs.RowWords.{words_of}
use Rattle.number_sets.proofs.Bits.{extended_bits, extended_row, length_bits}
use Rattle.number_sets.proofs.row.Row.extended.Goals as goal

pub invariant_of-result : goal.invariant_of-result
invariant_of-result c =
    let before = c.self.inside.len in
    let m = c.max-len.result in
    let low : before ≤ m = omega (arith, c.max-len.ensures) in
    rw c.in_ok-extended.ensures (extended_row before m _ (words_of c.self.inside.words) c.self.invariant low (omega (arith, low, c.words_for.ensures, c.words_for-2.ensures)))

pub returns : goal.returns
returns c =
    let before = c.self.inside.len in
    let words = words_of c.self.inside.words in
    let m = c.max-len.result in
    let low : before ≤ m = omega (arith, c.max-len.ensures) in
    let same : m - before ≡ c.args.n - length c.args.self.now = omega (arith, c.max-len.ensures, ap length c.self.view_is, length_bits before words) in
    rw c.in_ok-extended.ensures (extended_bits before m _ words c.self.invariant low) ∙ ap₂ (λ (xs : List Bool) (k : ℕ). xs ++ replicate k false) c.self.view_is same
