use Rattle.std.proofs.Common.{◌++◌, ap}
use Rattle.std.specs.List.{flat_map}
use Rattle.certificate.specs.Text.{run_text}
use Rattle.certificate_text.proofs.Earlier.{first_runs}
use Rattle.certificate_text.proofs.run.push_runs.Goals as goal

pub loop-number-init : goal.loop-number-init
loop-number-init c = ap (λ rs. c.args.out.now.items ++ flat_map run_text rs) (first_runs c.args.numbers.now c.in-len1-up.len_at_least)
