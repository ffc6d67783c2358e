use Rattle.std.proofs.Common.{ℕ, ◌<◌}
use Rattle.inference.specs.Derivations.{Grows}
use Rattle.inference.specs.Entry.{LoopIsDrawn}
use Rattle.inference.proofs.rules.Rules.draw_targets.Given as goal

abbrev pub invariant-loop-number : goal.invariant-loop-number
invariant-loop-number l = record {
  grows : Grows l.self.problem.now l.self.max_facts l.fn.facts l.facts;
  drawn : (n : ℕ) → n < l.number → LoopIsDrawn l.self.problem.now l.fn.facts.facts l.facts n;
}
