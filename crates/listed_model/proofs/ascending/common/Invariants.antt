use Rattle.std.proofs.Common.{◌≡◌, take}
use Rattle.std.specs.Prelude.{filter}
use Rattle.listed_model.specs.Members.{holds}
use Rattle.listed_model.proofs.ascending.common.Given as goal

abbrev pub invariant-loop-number : goal.invariant-loop-number
invariant-loop-number l = l.both.items ≡ filter (holds l.list) (take l.number-index l.few)
