use Rattle.std.proofs.Common.{◌≡◌, IfOk, subst}
use Rattle.clap.specs.Words.{App, app_of, with_subcommand}
use Rattle.command_line.specs.CommandLine.{query_app, with_classes, with_reasons, with_sides}
use Rattle.command_line.proofs.Additions.{returned_local_with_made, returned_with_made}
use Rattle.command_line.proofs.command.with_questions.Goals as goal

pub returns-clause-app : goal.returns-clause-app
returns-clause-app c =
    let P : App → Type 0 = λ app. IfOk c.with_subcommand.result (λ last. app_of last ≡ with_subcommand app query_app.top) in
    let Q : App → Type 0 = λ app. P (with_reasons app) in
    let R : App → Type 0 = λ app. Q (with_classes app) in
    let S : App → Type 0 = λ app. R (with_sides app) in
    let last = returned_with_made _ _ _ query_app c.with_subcommand.ensures.app c.query_command.ensures.app c.query_command.ensures.local in
    subst S c.in_ok-command.ensures.app (subst R c.in_ok-command-2.ensures.app (subst Q c.in_ok-command-3.ensures.app (subst P c.in_ok-command-4.ensures.app last)))

pub returns-clause-local : goal.returns-clause-local
returns-clause-local c = λ local.
    let before = c.in_ok-command-4.ensures.local (c.in_ok-command-3.ensures.local (c.in_ok-command-2.ensures.local (c.in_ok-command.ensures.local local))) in
    returned_local_with_made _ _ _ c.with_subcommand.ensures.local c.query_command.ensures.local before
