use Rattle.std.proofs.Common.{ℕ, ◌<◌}
use Rattle.inference.specs.Derivations.{Grows}
use Rattle.inference.specs.Differences.{IsDrawnAt}
use Rattle.inference.proofs.rules.Rules.draw_places.Given as goal

abbrev pub invariant-loop-place : goal.invariant-loop-place
invariant-loop-place l = record {
  grows : Grows l.self.problem.now l.self.max_facts l.fn.facts l.facts;
  drawn : (m : ℕ) → m < l.place → IsDrawnAt l.self.problem.now.forms l.list l.facts.facts m;
}
