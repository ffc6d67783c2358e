use Rattle.std.proofs.Common.{◌≡◌, ◌-◌, true}
use Rattle.cli.specs.Filing.{IsRunOn}
use Rattle.telling.specs.Devices.{seen}
use Rattle.telling.specs.Progress.{IsProgress}
use Rattle.session.specs.Sessions.{KeepsText}
use Rattle.cli.proofs.slicing.run_slices.Given as goal

abbrev pub invariant-loop-end : goal.invariant-loop-end
invariant-loop-end g l = record {
  limits : l.service.limits ≡ l.fn.service.limits;
  run_on : IsRunOn l.fn.service.limits l.fn.service.session l.service.session;
  kept : KeepsText l.fn.service.session l.service.session;
  progress : IsProgress true (seen g.E.Sink l.fn.err) (seen g.E.Sink l.err);
}

abbrev pub decreases-loop-end : goal.decreases-loop-end
decreases-loop-end g l = l.service.limits.max_facts - l.end
