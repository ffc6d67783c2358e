use Rattle.std.proofs.Common.{rules}
use Rattle.clap.specs.Words.{found_of, rows_of}
use Rattle.command_line.proofs.NoTask.{no_limits, no_lining, no_telling}
use Rattle.command_line.proofs.words.entered.Goals as goal

pub returns-in_err-limits : goal.returns-in_err-limits
returns-in_err-limits c = rw c.from_residual-in_err-limits.ensures (no_limits _ _ _ c.in_ok-command.command (search rules) c.in_ok-command.ensures c.in_err-limits.ensures)

pub returns-in_err-progress : goal.returns-in_err-progress
returns-in_err-progress c = rw c.from_residual-in_err-progress.ensures (no_telling _ _ _ c.in_ok-command.command (search rules) c.in_ok-command.ensures c.in_err-progress.ensures)

pub returns-in_err-lines : goal.returns-in_err-lines
returns-in_err-lines c = rw c.from_residual-in_err-lines.ensures (no_lining c.in_ok-name.name.now (rows_of (found_of c.in_ok-name.inner.now)) _ (search rules) c.in_err-lines.ensures)

pub returns : goal.returns
returns c = record {
  name = c.in_ok-name.name.now;
  rows = rows_of (found_of c.in_ok-name.inner.now);
  found = search rules;
  is = record { command = c.in_ok-command.ensures; limits = c.in_ok-limits.ensures; progress = c.in_ok-progress.ensures; lines = c.in_ok-lines.ensures };
}
