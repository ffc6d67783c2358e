use Rattle.std.proofs.Common.{Some, refl, subst, sym}
use Rattle.clap.specs.Words.{found_of, rows_of}
use Rattle.command_line.specs.CommandLine.{IsCommand}
use Rattle.command_line.specs.Receiver.{rules_name, task_of}
use Rattle.command_line.specs.declared.tasks.Command.{Command}
use Rattle.command_line.proofs.NoTask.{no_lining, no_telling}
use Rattle.command_line.proofs.receiver.ruled_task.Goals as goal

pub returns-in_err-progress : goal.returns-in_err-progress
returns-in_err-progress c =
    let rows = rows_of (found_of c.args.matches.now) in
    let name = rules_name c.args.converts in
    let P : Command → Type 0 = IsCommand name rows in
    let asked : IsCommand name rows c.command_of-command.result = subst P (sym c.command_of-command.ensures) c.in_ok-request.ensures in
    rw c.from_residual-in_err-progress.ensures (λ task is. no_telling name rows (Some (name, rows)) c.command_of-command.result refl asked c.in_err-progress.ensures (task_of task) (record { name = name; rows = rows; found = refl; is = is }))

pub returns-in_err-lines : goal.returns-in_err-lines
returns-in_err-lines c =
    let rows = rows_of (found_of c.args.matches.now) in
    let name = rules_name c.args.converts in
    rw c.from_residual-in_err-lines.ensures (λ task is. no_lining name rows (Some (name, rows)) refl c.in_err-lines.ensures (task_of task) (record { name = name; rows = rows; found = refl; is = is }))
