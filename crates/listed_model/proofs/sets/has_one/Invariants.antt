use Rattle.std.proofs.Common.{◌≡◌, take, false}
use Rattle.std.specs.List.{list_any}
use Rattle.number_sets.specs.Members.{has}
use Rattle.listed_model.proofs.sets.has_one.Given as goal

abbrev pub invariant-loop-number : goal.invariant-loop-number
invariant-loop-number l = list_any (has l.set) (take l.number-index l.numbers) ≡ false
