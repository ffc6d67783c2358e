use Rattle.std.proofs.Common.{◌≡◌, filter, map, take}
use Rattle.number_sets.specs.Members.{has}
use Rattle.taxonomy.proofs.collecting.each_members.Given as goal

abbrev pub invariant-loop-row : goal.invariant-loop-row
invariant-loop-row l = l.lists ≡ map (λ row. filter (has row) l.all) (take l.row-index l.rows)
