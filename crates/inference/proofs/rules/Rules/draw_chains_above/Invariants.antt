use Rattle.std.proofs.Common.{take, Contains}
use Rattle.normal_forms.specs.declared.forms.PropId2.{PropId2}
use Rattle.inference.specs.Derivations.{Grows}
use Rattle.inference.specs.Visits.{ChainsDrawn}
use Rattle.inference.proofs.rules.Rules.draw_chains_above.Given as goal

abbrev pub invariant-loop-above : goal.invariant-loop-above
invariant-loop-above l = record {
  grows : Grows l.self.problem.now l.self.max_facts l.fn.facts l.facts;
  drawn : (r : PropId2) → Contains (take l.above-index l.above-items) r → ChainsDrawn l.self.problem.now l.older.facts.now l.facts.facts r;
}
