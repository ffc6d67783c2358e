use Rattle.std.proofs.Common.{◌-◌, length}
use Rattle.fs_parser.specs.Stream.{BeginText}
use Rattle.fs_parser.specs.View.{tokens_of}
use Rattle.fs_parser.proofs.stream.header.Given as goal

-- the text begins with the tokens so far
abbrev pub invariant-loop-token : goal.invariant-loop-token
invariant-loop-token l = BeginText l.fn.text (tokens_of l.tokens.items) l.from

abbrev pub decreases-loop-token : goal.decreases-loop-token
decreases-loop-token l = length l.fn.text - l.from
