use Rattle.std.proofs.Common.{sym}
use Rattle.fs_lexer.proofs.Tables.{last_dot}
use Rattle.fs_lexer.proofs.bytes.is_last_dot.Goals as goal

pub returns-in-Some : goal.returns-in-Some
returns-in-Some c = sym (last_dot c.args.bytes.now c.in-Some.byte.now (sym c.in-Some.ensures.value))
