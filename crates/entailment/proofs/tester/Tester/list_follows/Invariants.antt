use Rattle.std.proofs.Common.{take}
use Rattle.std.specs.List.{flat_map, range_with_len}
use Rattle.axioms.specs.View.{axiom_of}
use Rattle.entailment.proofs.Going.{Goes}
use Rattle.entailment.specs.Parts.{parts_before}
use Rattle.entailment.proofs.tester.Tester.list_follows.Given as goal

abbrev pub invariant-loop-n : goal.invariant-loop-n
invariant-loop-n l = Goes l.self.about.now l.self.max_facts (flat_map (parts_before (axiom_of l.stated)) (take l.n (range_with_len 0 l.count)))
