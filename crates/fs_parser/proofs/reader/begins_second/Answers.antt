use Rattle.std.proofs.Common.{map, sym, arith}
use Rattle.fs_parser.specs.State.{pending_of}
use Rattle.fs_parser.specs.View.{tree_of}
use Rattle.fs_parser.proofs.Steps.{none_outside}
use Rattle.fs_parser.proofs.reader.begins_second.Goals as goal

pub returns-then-not-is_empty : goal.returns-then-not-is_empty
returns-then-not-is_empty c =
    let s = c.args.state.now in sym (none_outside s.frames.items (map tree_of s.done.items) (pending_of s.pending) c.args.token.now.kind (grind arith))
