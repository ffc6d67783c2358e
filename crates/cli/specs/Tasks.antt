-- How a task reads its document.
use Rattle.std.specs.Prelude.{ℕ, List}
use Rattle.std.specs.Borrow.{Bor}
use Rattle.cli.specs.declared.tasks.TaskRun.{TaskRun}
use Rattle.receiving.specs.declared.asked.Reading.{Reading}

-- the document at the path is read by the means of the task, within its limits
abbrev pub reading_of : TaskRun → (path : Bor (List ℕ)) → Reading
reading_of run path = record { means = run.means; path = path; limits = run.task.limits }
