use Rattle.std.proofs.Common.{◌≡◌, [], map, replicate}
use Rattle.number_sets.proofs.open_lists.OpenLists.new.Given as goal

abbrev pub invariant-loop : goal.invariant-loop
invariant-loop g l = map (λ v. v.items) l.lists.items ≡ replicate l.counter []
