use Rattle.std.proofs.Common.{◌≡◌, ◌++◌, map, take}
use Rattle.std.specs.List.{flat_map}
use Rattle.session.specs.TextAnswers.{later_name}
use Rattle.session.proofs.listed.push_later.Given as goal

abbrev pub invariant-loop-name : goal.invariant-loop-name
invariant-loop-name l = l.out.items ≡ l.fn.out.items ++ flat_map later_name (map (λ s. s.now) (take l.name-index l.names))
