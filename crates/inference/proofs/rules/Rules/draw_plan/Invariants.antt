use Rattle.std.proofs.Common.{take}
use Rattle.inference.specs.Derivations.{Grows}
use Rattle.inference.specs.Plans.{IsPlanDrawn}
use Rattle.inference.proofs.rules.Rules.draw_plan.Given as goal

abbrev pub invariant-loop-chain : goal.invariant-loop-chain
invariant-loop-chain l = record {
  grows : Grows l.self.problem.now l.self.max_facts l.fn.facts l.facts;
  drawn : IsPlanDrawn l.self.problem.now l.older.facts.now l.facts.facts (take l.chain-index l.plan);
}
