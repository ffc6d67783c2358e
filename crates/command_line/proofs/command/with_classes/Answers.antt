use Rattle.std.proofs.Common.{◌≡◌, IfOk, subst}
use Rattle.clap.specs.Words.{App, app_of, with_subcommand}
use Rattle.command_line.specs.CommandLine.{types_app, unsatisfiable_app}
use Rattle.command_line.proofs.Additions.{local_with_made, returned_local_with_made, returned_with_made, with_made}
use Rattle.command_line.proofs.command.with_classes.Goals as goal

pub returns-clause-app : goal.returns-clause-app
returns-clause-app c =
    let P : App → Type 0 = λ app. IfOk c.with_subcommand-2.result (λ last. app_of last ≡ with_subcommand app unsatisfiable_app.top) in
    let first = with_made _ _ _ types_app c.in_ok-command.ensures.app c.types_command.ensures.app c.types_command.ensures.local in
    let last = returned_with_made _ _ _ unsatisfiable_app c.with_subcommand-2.ensures.app c.unsatisfiable_command.ensures.app c.unsatisfiable_command.ensures.local in
    subst P first last

pub returns-clause-local : goal.returns-clause-local
returns-clause-local c = λ local.
    let first = local_with_made _ _ _ c.in_ok-command.ensures.local c.types_command.ensures.local local in
    returned_local_with_made _ _ _ c.with_subcommand-2.ensures.local c.unsatisfiable_command.ensures.local first
