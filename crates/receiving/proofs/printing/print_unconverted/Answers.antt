use Rattle.std.proofs.Common.{◌∙◌}
use Rattle.program.specs.declared.status.Status.TheVariants as statuses
use Rattle.telling.proofs.Printed.{printed, joined, last}
use Rattle.receiving.specs.Messages.{unconverted_text}
use Rattle.receiving.proofs.printing.print_unconverted.Goals as goal

pub returns : goal.returns
returns g c =
    printed (g.O.Sink.taken c.args.out.now, g.O.Sink.failures c.args.out.now) (g.O.Sink.taken c.print_pieces.new.sink, g.O.Sink.failures c.print_pieces.new.sink) _ (unconverted_text c.args.line) statuses.Rejected c.print_pieces.result
    (joined c.as_slice.ensures (joined (c.as_bytes.ensures.value ∙ c.format.ensures.text) (last c.as_slice-2.ensures))) c.print_pieces.ensures
