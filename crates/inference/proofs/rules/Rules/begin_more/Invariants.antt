use Rattle.inference.specs.Derivations.{Grows}
use Rattle.inference.specs.Completeness.{AreEntered}
use Rattle.inference.proofs.rules.Rules.begin_more.Given as goal

abbrev pub invariant-loop-number : goal.invariant-loop-number
invariant-loop-number l = record {
  grows : Grows l.self.problem.now l.self.max_facts l.fn.facts l.facts;
  entered : AreEntered l.self.problem.now l.number l.facts;
}
