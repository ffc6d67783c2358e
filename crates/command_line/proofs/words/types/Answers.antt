use Rattle.clap.specs.Words.{found_of, rows_of}
use Rattle.command_line.proofs.Asking.{no_types}
use Rattle.command_line.proofs.words.types.Goals as goal

pub returns-in_err-flag : goal.returns-in_err-flag
returns-in_err-flag c = rw c.from_residual-in_err-flag.ensures (no_types (rows_of (found_of c.args.inner.now)) c.in_err-flag.ensures)
