use Rattle.std.proofs.Common.{inl, map, subst}
use Rattle.cli.proofs.run.perform.Goals as goal
use Rattle.command_line.specs.CommandLine.{Gives}
use Rattle.command_line.specs.declared.tasks.Invocation.{Invocation}

pub returns-in-Ok-Task-clause-performed : goal.returns-in-Ok-Task-clause-performed
returns-in-Ok-Task-clause-performed g c =
    let gives = subst (λ (asked : Invocation). Gives (map (λ w. w.now) c.args.words.now) asked) c.in-Ok-Task.field-0-is c.in-Ok-Task.ensures.asked in
    inl (c.in-Ok-Task.task, gives.0, c.perform_task.ensures.performed, gives.1)
