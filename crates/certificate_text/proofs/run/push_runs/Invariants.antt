use Rattle.std.proofs.Common.{◌≡◌, ◌++◌, drop}
use Rattle.std.specs.List.{flat_map}
use Rattle.certificate.specs.Text.{run_text}
use Rattle.certificate.specs.Runs.{runs_of}
use Rattle.certificate_text.proofs.FoundRuns.{pending}
use Rattle.certificate_text.proofs.run.push_runs.Given as goal

abbrev pub invariant-loop-number : goal.invariant-loop-number
invariant-loop-number l = l.out.items ++ flat_map run_text (pending l.first l.last (drop l.number-index l.others)) ≡ l.fn.out.items ++ flat_map run_text (runs_of l.fn.numbers)
