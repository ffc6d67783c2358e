use Rattle.std.proofs.Common.{◌≡◌, ◌*◌, ℕ}
use Rattle.interpretation_spec.specs.Members.{members_below}
use Rattle.interpretation_spec.proofs.SetWords.{AreTaken}
use Rattle.interpretation_spec.proofs.set_members.push_word.Given as goal

abbrev pub invariant-loop-left : goal.invariant-loop-left
invariant-loop-left l = (k : ℕ) × AreTaken l.set (λ n. l.found.items ≡ members_below l.set n) (64 * l.word) l.left k

abbrev pub decreases-loop-left : goal.decreases-loop-left
decreases-loop-left l = l.left
