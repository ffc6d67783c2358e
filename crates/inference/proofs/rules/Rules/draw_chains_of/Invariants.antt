use Rattle.std.proofs.Common.{take, Contains}
use Rattle.normal_forms.specs.declared.forms.PropId2.{PropId2}
use Rattle.inference.specs.Derivations.{Grows}
use Rattle.inference.specs.Visits.{AreChainsDrawn}
use Rattle.inference.proofs.rules.Rules.draw_chains_of.Given as goal

abbrev pub invariant-loop-above : goal.invariant-loop-above
invariant-loop-above l = record {
  grows : Grows l.self.problem.now l.self.max_facts l.fn.facts l.facts;
  drawn : (s : PropId2) → Contains (take l.above-index l.above-items) s → AreChainsDrawn l.self.problem.now l.older.facts.now l.facts.facts l.first s;
}
