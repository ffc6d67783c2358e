use Rattle.std.proofs.Common.{take}
use Rattle.std.specs.List.{flat_map, range_with_len}
use Rattle.axioms.specs.View.{axiom_of}
use Rattle.entailment.proofs.Going.{Goes}
use Rattle.entailment.specs.Parts.{parts_at}
use Rattle.entailment.proofs.tester.Tester.member_follows.Given as goal

abbrev pub invariant-loop-m : goal.invariant-loop-m
invariant-loop-m l = Goes l.self.about.now l.self.max_facts (flat_map (λ m. parts_at (axiom_of l.stated) m l.n) (take l.m (range_with_len 0 l.n)))
