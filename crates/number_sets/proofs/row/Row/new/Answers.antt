use Rattle.number_sets.specs.RowWords.{words_of}
use Rattle.number_sets.specs.Words.{bit_of}
use Rattle.std.proofs.Common.{false}
use Rattle.number_sets.proofs.Bits.{no_bits}
use Rattle.number_sets.proofs.Tables.{table_one}
use Rattle.number_sets.proofs.row.Row.new.Goals as goal

pub returns : goal.returns
returns c =
    let zero = c.in_ok-words.ensures in
    table_one c.args.n (bit_of (words_of c.in_ok-words.words)) false (λ k. rw zero (no_bits _ k))
