use Rattle.std.proofs.Common.{◌≡◌, take}
use Rattle.indexes.specs.Groups.{links}
use Rattle.indexes.proofs.same_individuals.links_of.Given as goal

abbrev pub invariant-loop-number : goal.invariant-loop-number
invariant-loop-number l = l.kept ≡ links (take l.number l.forms)
