use Rattle.std.proofs.Common.{◌≡◌, length}
use Rattle.fs_parser.specs.State.{state_of, frames_of}
use Rattle.fs_parser.specs.KnownPrefixes.{known_of}
use Rattle.fs_parser.specs.View.{tokens_of}
use Rattle.fs_parser.specs.Machine.{start}
use Rattle.fs_parser.proofs.Run.{run}
use Rattle.fs_parser.proofs.Faults.{IsReadTo}
use Rattle.fs_parser.proofs.trees.tree_to_end.Given as goal

-- what is left gives the trees of all, and the open parentheses are those before it
abbrev pub invariant-loop-rest : goal.invariant-loop-rest
invariant-loop-rest l =
    (run l.limit (known_of l.known) (tokens_of l.rest) (state_of l.state) ≡ run l.limit (known_of l.known) (tokens_of l.fn.tokens) start)
    × IsReadTo (tokens_of l.fn.tokens) (tokens_of l.rest) (length (frames_of l.state.frames.items))

abbrev pub decreases-loop-rest : goal.decreases-loop-rest
decreases-loop-rest l = length l.rest
