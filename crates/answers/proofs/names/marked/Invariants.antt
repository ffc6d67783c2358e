use Rattle.std.proofs.Common.{◌*◌, map}
use Rattle.std.specs.String.{string_bytes}
use Rattle.answers.specs.Names.{AreMarkedBelow}
use Rattle.answers.proofs.names.marked.Given as goal

abbrev pub invariant-loop-j : goal.invariant-loop-j
invariant-loop-j l = AreMarkedBelow (64 * l.j) (map string_bytes l.names) l.marks (map (λ s. s.now) l.found.items)
