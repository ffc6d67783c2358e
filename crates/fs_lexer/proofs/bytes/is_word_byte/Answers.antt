use Rattle.std.proofs.Common.{refl, arith}
use Rattle.fs_lexer.specs.Spelling.{is_word_byte}
use Rattle.fs_lexer.specs.declared.bytes.TheConstants.{WORD_BYTES}
use Rattle.fs_lexer.proofs.Tables.{agree_below, from_table}
use Rattle.fs_lexer.proofs.bytes.is_word_byte.Goals as goal

pub returns : goal.returns
unfolding agree_below
returns c = from_table WORD_BYTES is_word_byte c.args.byte (omega arith) refl
