use Rattle.std.proofs.Common.{take, Contains}
use Rattle.normal_forms.specs.declared.forms.PropId2.{PropId2}
use Rattle.inference.specs.Derivations.{Grows}
use Rattle.inference.specs.Marks.{AreFilledOn}
use Rattle.inference.specs.Premises.{edge_fact}
use Rattle.inference.proofs.rules.Rules.fill_all.Given as goal

abbrev pub invariant-loop-above : goal.invariant-loop-above
invariant-loop-above l = record {
  grows : Grows l.self.problem.now l.self.max_facts l.fn.facts l.facts;
  filled : (r : PropId2) → Contains (take l.above-index l.above-items) r → AreFilledOn l.self.problem.now (edge_fact l.hand) l.fn.facts.facts l.facts.facts r;
}
