use Rattle.std.proofs.Common.{◌-◌, length}
use Rattle.fs_parser.specs.KnownPrefixes.{known_of}
use Rattle.fs_parser.specs.State.{state_of}
use Rattle.fs_parser.proofs.TreeReading.{IsWithin}
use Rattle.fs_parser.proofs.tree_reader.tree_at.Given as goal

-- the state is that of the tokens so far
abbrev pub invariant-loop-token : goal.invariant-loop-token
invariant-loop-token l = IsWithin l.fn.text l.fn.start l.from (known_of l.fn.known) (state_of l.state)

abbrev pub decreases-loop-token : goal.decreases-loop-token
decreases-loop-token l = length l.fn.text - l.from
