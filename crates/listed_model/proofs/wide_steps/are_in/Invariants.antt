use Rattle.std.proofs.Common.{◌≡◌, take, true}
use Rattle.std.specs.List.{list_all}
use Rattle.number_sets.specs.Members.{has}
use Rattle.listed_model.proofs.wide_steps.are_in.Given as goal

abbrev pub invariant-loop-number : goal.invariant-loop-number
invariant-loop-number l = list_all (has l.members) (take l.number-index l.numbers) ≡ true
