use Rattle.std.proofs.Common.{sym}
use Rattle.number_sets.specs.RowWords.{words_of}
use Rattle.number_sets.proofs.Bits.{length_bits}
use Rattle.number_sets.proofs.row.Row.len.Goals as goal

pub returns : goal.returns
returns c = rw (← c.self.view_is) (sym (length_bits c.self.inside.len (words_of c.self.inside.words)))
