use Rattle.std.proofs.Common.{option_map, sym}
use Rattle.certificate.specs.View.{run_of}
use Rattle.certificate.proofs.RunReading.{no_runs_yet, one_more_run, less_of_runs, run_in_order, all_runs}
use Rattle.certificate.proofs.listed_reading.run_ends_at.Goals as goal

pub loop-run-init : goal.loop-run-init
loop-run-init c = no_runs_yet c.args.domain c.args.bytes.now _ c.new-ends.ensures.items

pub loop-run-smaller : goal.loop-run-smaller
loop-run-smaller c =
    less_of_runs c.args.domain (option_map run_of c.loop-run.before) c.loop-run.rest.now (run_of c.in-Some.run') c.in-Some.others.now (sym c.in-Some.ensures)

pub overflow_sub-run : goal.overflow_sub-run
overflow_sub-run c =
    run_in_order c.args.domain (option_map run_of c.loop-run.before) c.loop-run.rest.now (run_of c.in-Some.run') c.in-Some.others.now (sym c.in-Some.ensures)

pub loop-run-preserved : goal.loop-run-preserved
loop-run-preserved c =
    one_more_run c.args.domain c.args.bytes.now c.loop-run.ends.items _ _ (option_map run_of c.loop-run.before) c.loop-run.rest.now (run_of c.in-Some.run') c.in-Some.others.now
    c.loop-run.invariant (sym c.in-Some.ensures) c.in_ok-push.ensures.ok c.in_ok-push-2.ensures.ok

pub returns : goal.returns
returns c = all_runs c.args.domain c.args.bytes.now c.loop-run.ends.items (option_map run_of c.loop-run.before) c.loop-run.rest.now c.loop-run.invariant (sym c.in_default.ensures)
