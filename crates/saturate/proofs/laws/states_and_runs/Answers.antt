use Rattle.saturate.proofs.Runs.{finished_is_closure, steps_serve, run_extends, any_order}
use Rattle.saturate.proofs.laws.states_and_runs.Goals as goal

pub returns : goal.returns
returns c = record {
  finished = finished_is_closure;
  steps = steps_serve;
  extends = run_extends;
  order = any_order;
}
