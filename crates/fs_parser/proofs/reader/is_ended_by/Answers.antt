use Rattle.std.proofs.Common.{sym, arith}
use Rattle.fs_parser.specs.State.{pending_of}
use Rattle.fs_parser.proofs.Steps.{still_open}
use Rattle.fs_parser.proofs.reader.is_ended_by.Goals as goal

pub returns-then-not-is_empty : goal.returns-then-not-is_empty
returns-then-not-is_empty c = let s = c.args.state.now in sym (still_open s.frames.items (pending_of s.pending) c.args.token.now.kind (grind arith))
