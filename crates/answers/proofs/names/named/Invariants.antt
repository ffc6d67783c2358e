use Rattle.std.proofs.Common.{◌≡◌, map, take}
use Rattle.std.specs.String.{string_bytes}
use Rattle.axioms.specs.Ontology.{name_at}
use Rattle.answers.proofs.names.named.Given as goal

abbrev pub invariant-loop-n : goal.invariant-loop-n
invariant-loop-n l = map (λ s. s.now) l.found.items ≡ map (name_at (map string_bytes l.names)) (take l.n-index l.numbers)
