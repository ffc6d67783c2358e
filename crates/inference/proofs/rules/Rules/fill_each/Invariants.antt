use Rattle.std.proofs.Common.{take}
use Rattle.inference.specs.Derivations.{Grows}
use Rattle.inference.specs.Marks.{AreFilled}
use Rattle.inference.specs.Premises.{edge_fact}
use Rattle.inference.proofs.rules.Rules.fill_each.Given as goal

abbrev pub invariant-loop-number : goal.invariant-loop-number
invariant-loop-number l = record {
  grows : Grows l.self.problem.now l.self.max_facts l.fn.facts l.facts;
  filled : AreFilled l.self.problem.now (edge_fact l.hand) l.fn.facts.facts l.facts.facts (take l.number-index l.numbers);
}
