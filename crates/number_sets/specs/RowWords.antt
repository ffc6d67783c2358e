-- The words of a row, in place or in memory.
use Rattle.std.specs.Prelude.{ℕ, List}
use Rattle.number_sets.specs.declared.row_words.RowWords.{RowWords}
use Rattle.number_sets.specs.declared.row_words.RowWords.TheVariants as the

abbrev pub words_of : RowWords → List ℕ
words_of (the.One words) = words
words_of (the.Many words) = words.items
