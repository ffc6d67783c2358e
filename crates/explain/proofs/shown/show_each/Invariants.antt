use Rattle.std.proofs.Common.{◌≡◌, ◌-◌, length}
use Rattle.explain.specs.LineOrder.{IsShowing}
use Rattle.explain.proofs.shown.show_each.Given as goal

abbrev pub invariant-loop-paths : goal.invariant-loop-paths
invariant-loop-paths g l = record {
  paths : l.paths ≡ l.initial.paths;
  showing : IsShowing l.basis.closed.now.ontology l.basis.closed.now.saturation l.marks l.derivation l.shown;
}

abbrev pub decreases-loop-paths : goal.decreases-loop-paths
decreases-loop-paths g l = length l.marks - length l.shown
