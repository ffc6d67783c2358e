use Rattle.std.proofs.Common.{take}
use Rattle.inference.specs.Derivations.{Grows}
use Rattle.inference.specs.Completeness.{AreMetBefore}
use Rattle.inference.proofs.rules.Rules.meet_before.Given as goal

abbrev pub invariant-loop-number : goal.invariant-loop-number
invariant-loop-number l = record {
  grows : Grows l.self.problem.now l.self.max_facts l.fn.facts l.facts;
  met : AreMetBefore l.self.problem.now l.hand.fact l.fn.facts.facts (take l.number-index l.numbers) l.facts;
}
