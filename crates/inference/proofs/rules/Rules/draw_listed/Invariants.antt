use Rattle.std.proofs.Common.{take}
use Rattle.inference.specs.Derivations.{Grows}
use Rattle.inference.specs.Completeness.{AreDrawnFrom}
use Rattle.inference.proofs.rules.Rules.draw_listed.Given as goal

abbrev pub invariant-loop-number : goal.invariant-loop-number
invariant-loop-number l = record {
  grows : Grows l.self.problem.now l.self.max_facts l.fn.facts l.facts;
  drawn : AreDrawnFrom l.self.problem.now l.older.facts.now l.facts.facts (take l.number-index l.listed);
}
