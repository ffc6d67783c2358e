use Rattle.std.proofs.Common.{◌∙◌}
use Rattle.program.specs.declared.status.Status.TheVariants as statuses
use Rattle.telling.proofs.Printed.{printed, joined, last}
use Rattle.cli.specs.Messages.{summary_text}
use Rattle.cli.proofs.printing.print_summary.Goals as goal

pub returns : goal.returns
returns g c =
    printed (g.O.Sink.taken c.args.out.now, g.O.Sink.failures c.args.out.now) (g.O.Sink.taken c.print_pieces.new.sink, g.O.Sink.failures c.print_pieces.new.sink) _ (summary_text c.args.summary.now) statuses.Done c.print_pieces.result
    (joined (c.as_bytes.ensures.value ∙ c.consistency.ensures) (joined c.as_slice.ensures (joined (c.as_bytes-2.ensures.value ∙ c.format.ensures.text) (joined c.as_slice-2.ensures (joined (c.as_bytes-3.ensures.value ∙ c.format-2.ensures.text) (joined c.as_slice-3.ensures (joined (c.as_bytes-4.ensures.value ∙ c.format-3.ensures.text) (last c.as_slice-4.ensures)))))))) c.print_pieces.ensures
