use Rattle.std.proofs.Common.{option_map, sym}
use Rattle.certificate.specs.View.{run_of}
use Rattle.certificate.proofs.RunReading.{no_numbers_yet, numbers_of_one_more, less_of_runs, run_in_order, all_numbers}
use Rattle.certificate.proofs.listed_reading.few_elements_at.Goals as goal

pub loop-run-init : goal.loop-run-init
loop-run-init c = no_numbers_yet c.args.domain c.args.bytes.now _ c.new-elements.ensures.items

pub loop-run-smaller : goal.loop-run-smaller
loop-run-smaller c =
    less_of_runs c.args.domain (option_map run_of c.loop-run.before) c.loop-run.rest.now (run_of c.in-Some.run') c.in-Some.others.now (sym c.in-Some.ensures)

pub overflow_sub-run : goal.overflow_sub-run
overflow_sub-run c =
    run_in_order c.args.domain (option_map run_of c.loop-run.before) c.loop-run.rest.now (run_of c.in-Some.run') c.in-Some.others.now (sym c.in-Some.ensures)

pub loop-run-preserved : goal.loop-run-preserved
loop-run-preserved c =
    numbers_of_one_more c.args.domain c.args.bytes.now c.loop-run.elements.items _ (option_map run_of c.loop-run.before) c.loop-run.rest.now (run_of c.in-Some.run') c.in-Some.others.now
    c.loop-run.invariant (sym c.in-Some.ensures) c.in_ok-push_run.ensures.numbers

pub returns : goal.returns
returns c = all_numbers c.args.domain c.args.bytes.now c.loop-run.elements.items (option_map run_of c.loop-run.before) c.loop-run.rest.now c.loop-run.invariant (sym c.in_default.ensures)
