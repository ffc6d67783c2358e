use Rattle.std.proofs.Common.{ℕ, ◌<◌}
use Rattle.inference.specs.Derivations.{Grows}
use Rattle.inference.specs.Sameness.{IsDifferenceDrawn}
use Rattle.inference.proofs.rules.Rules.draw_different.Given as goal

abbrev pub invariant-loop-number : goal.invariant-loop-number
invariant-loop-number l = record {
  grows : Grows l.self.problem.now l.self.max_facts l.fn.facts l.facts;
  drawn : (m : ℕ) → m < l.number → IsDifferenceDrawn l.self.problem.now l.facts.facts m;
}
