use Rattle.std.proofs.Common.{◌≡◌, ◌≤◌, ◌-◌}
use Rattle.telling.specs.Devices.{seen}
use Rattle.telling.specs.Progress.{IsProgress}
use Rattle.session.specs.Sessions.{KeepsText}
use Rattle.session.proofs.slices.resume_slices.Given as goal

abbrev pub invariant-loop-end : goal.invariant-loop-end
invariant-loop-end g l = record {
  ontology : l.session.ontology ≡ l.fn.session.ontology;
  others : KeepsText l.fn.session l.session;
  within : l.end ≤ l.max_facts;
  progress : IsProgress l.told (seen g.W.Sink l.fn.sink) (seen g.W.Sink l.sink);
}

abbrev pub decreases-loop-end : goal.decreases-loop-end
decreases-loop-end g l = l.max_facts - l.end
