use Rattle.std.proofs.Common.{◌≡◌, take}
use Rattle.answers.specs.Names.{groups_in}
use Rattle.session.specs.TextAnswers.{group_lines}
use Rattle.session.proofs.listed.lines_of_groups.Given as goal

abbrev pub invariant-loop-group : goal.invariant-loop-group
invariant-loop-group l = l.out.items ≡ group_lines (groups_in (take l.group-index l.groups))
