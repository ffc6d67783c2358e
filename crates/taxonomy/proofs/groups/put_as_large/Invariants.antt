use Rattle.std.proofs.Common.{◌≡◌, eqb, filter, length, take}
use Rattle.number_sets.specs.Pieces.{list_at}
use Rattle.taxonomy.proofs.groups.put_as_large.Given as goal

abbrev pub invariant-loop-h : goal.invariant-loop-h
invariant-loop-h l = l.numbers.items ≡ filter (λ h. eqb (length (list_at l.classes h)) l.size) (take l.h-index l.h-items)
