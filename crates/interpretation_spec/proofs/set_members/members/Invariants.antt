use Rattle.std.proofs.Common.{◌≡◌, ◌*◌}
use Rattle.interpretation_spec.specs.Members.{members_below}
use Rattle.interpretation_spec.proofs.set_members.members.Given as goal

abbrev pub invariant-loop-word : goal.invariant-loop-word
invariant-loop-word l = l.found.items ≡ members_below l.set (64 * l.word)
