use Rattle.std.proofs.Common.{◌≡◌, take, true}
use Rattle.std.specs.List.{list_all}
use Rattle.listed_model.specs.Members.{holds}
use Rattle.listed_model.proofs.ascending.are_within.Given as goal

abbrev pub invariant-loop-number : goal.invariant-loop-number
invariant-loop-number l = list_all (holds l.list) (take l.number-index l.few) ≡ true
