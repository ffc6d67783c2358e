use Rattle.std.proofs.Common.{◌≤◌, All, length, map, take}
use Rattle.std.specs.String.{string_bytes}
use Rattle.entailment.proofs.individuals.longest.Given as goal

abbrev pub invariant-loop-name : goal.invariant-loop-name
invariant-loop-name l = All (λ name. length name ≤ l.longest) (map string_bytes (take l.name-index l.names))
