use Rattle.std.proofs.Common.{refl, arith}
use Rattle.fs_lexer.specs.Reading.{is_local_byte}
use Rattle.fs_lexer.specs.declared.bytes.TheConstants.{LOCAL_BYTES}
use Rattle.fs_lexer.proofs.Tables.{agree_below, from_table}
use Rattle.fs_lexer.proofs.bytes.is_local_byte.Goals as goal

pub returns : goal.returns
unfolding agree_below
returns c = from_table LOCAL_BYTES is_local_byte c.args.byte (omega arith) refl
