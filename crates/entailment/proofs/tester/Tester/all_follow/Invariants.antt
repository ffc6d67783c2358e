use Rattle.std.proofs.Common.{map, take}
use Rattle.std.specs.List.{flat_map}
use Rattle.axioms.specs.View.{axiom_of}
use Rattle.entailment.proofs.Going.{Goes}
use Rattle.entailment.specs.Parts.{parts_of}
use Rattle.entailment.proofs.tester.Tester.all_follow.Given as goal

abbrev pub invariant-loop-next : goal.invariant-loop-next
invariant-loop-next l = Goes l.self.about.now l.self.max_facts (flat_map parts_of (take l.next-index (map axiom_of l.axioms)))
