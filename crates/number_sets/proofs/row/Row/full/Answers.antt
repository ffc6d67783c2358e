use Rattle.std.proofs.Common.{sym, subst}
use Rattle.number_sets.specs.RowWords.{words_of}
use Rattle.number_sets.proofs.Bits.{AreFull, all_ones, full_bits, full_row, ones_and_last}
use Rattle.number_sets.proofs.row.Row.full.Goals as goal
use Rattle.number_sets.proofs.row.Row.full.Goals.{then-n-ne0, else-n-ne0}

full : (c : goal.Joined-n-ne0) → AreFull c.args.n (words_of c.if-n-ne0.words)
full c =
    let n = c.args.n in
    let count = c.words_for.result in
    let many = c.words_for.ensures in
    let ones = c.in_ok-words.ensures in
    elim c.if-n-ne0.branch [
      | then-n-ne0 w ↦ subst (λ v. AreFull n (words_of v)) (sym w.words-is) (rw w.set.ensures (ones_and_last n count (words_of c.in_ok-words.words) ones many w.if-n-ne0.true))
      | else-n-ne0 w ↦ subst (λ v. AreFull n (words_of v)) (sym w.words-is) (all_ones n count (words_of c.in_ok-words.words) ones many w.if-n-ne0.false)
    ]

pub invariant_of-result : goal.invariant_of-result
invariant_of-result c = full_row c.args.n (words_of c.if-n-ne0.words) (full c)

pub returns : goal.returns
returns c = full_bits c.args.n (words_of c.if-n-ne0.words) (full c)
