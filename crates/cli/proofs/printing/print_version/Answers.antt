use Rattle.program.specs.declared.status.Status.TheVariants as statuses
use Rattle.telling.proofs.Printed.{printed, joined, last}
use Rattle.cli.specs.Messages.{version_text}
use Rattle.cli.proofs.printing.print_version.Goals as goal

pub returns : goal.returns
returns g c =
    printed (g.O.Sink.taken c.args.out.now, g.O.Sink.failures c.args.out.now) (g.O.Sink.taken c.print_pieces.new.sink, g.O.Sink.failures c.print_pieces.new.sink) _ version_text statuses.Done c.print_pieces.result
    (joined c.as_slice.ensures (joined c.as_bytes.ensures.value (last c.as_slice-2.ensures))) c.print_pieces.ensures
