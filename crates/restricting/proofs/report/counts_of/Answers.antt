use Rattle.std.proofs.Common.{◌∙◌, sym}
use Rattle.std.proofs.lemmas.List.{append_cancel_left}
use Rattle.restricting.proofs.report.counts_of.Goals as goal

pub returns-in-Some : goal.returns-in-Some
returns-in-Some c = λ counts is. append_cancel_left c.args.faults.now c.in-Some.counts.now counts (sym c.in-Some.ensures.some ∙ is)
