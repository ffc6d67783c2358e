use Rattle.std.proofs.Common.{ℕ, ◌*◌, map}
use Rattle.std.specs.String.{string_bytes}
use Rattle.answers.proofs.MarkWords.{AreTaken}
use Rattle.answers.proofs.names.push_marked.Given as goal

abbrev pub invariant-loop-left : goal.invariant-loop-left
invariant-loop-left l = (k : ℕ) × AreTaken l.marks (map string_bytes l.names) (map (λ s. s.now) l.found.items) (64 * l.j) l.left k

abbrev pub decreases-loop-left : goal.decreases-loop-left
decreases-loop-left l = l.left
