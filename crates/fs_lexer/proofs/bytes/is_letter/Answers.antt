use Rattle.std.proofs.Common.{refl, arith}
use Rattle.std.specs.Char.{is_ascii_alphabetic}
use Rattle.fs_lexer.specs.declared.bytes.TheConstants.{LETTERS}
use Rattle.fs_lexer.proofs.Tables.{agree_below, from_table}
use Rattle.fs_lexer.proofs.bytes.is_letter.Goals as goal

pub returns : goal.returns
unfolding agree_below
returns c = from_table LETTERS is_ascii_alphabetic c.args.byte (omega arith) refl
