use Rattle.std.proofs.Common.{◌≡◌, IfOk, subst}
use Rattle.clap.specs.Words.{App, app_of, with_subcommand}
use Rattle.command_line.specs.CommandLine.{check_app, classify_app, convert_app}
use Rattle.command_line.proofs.Additions.{local_with_made, returned_local_with_made, returned_with_made, with_made}
use Rattle.command_line.proofs.command.with_certificates.Goals as goal

pub returns-clause-app : goal.returns-clause-app
returns-clause-app c =
    let P : App → Type 0 = λ app. IfOk c.with_subcommand-3.result (λ last. app_of last ≡ with_subcommand app convert_app.top) in
    let Q : App → Type 0 = λ app. P (with_subcommand app check_app.top) in
    let first = with_made _ _ _ classify_app c.in_ok-command.ensures.app c.classify_command.ensures.app c.classify_command.ensures.local in
    let second = with_made _ _ _ check_app c.in_ok-command-2.ensures.app c.check_command.ensures.app c.check_command.ensures.local in
    let last = returned_with_made _ _ _ convert_app c.with_subcommand-3.ensures.app c.convert_command.ensures.app c.convert_command.ensures.local in
    subst Q first (subst P second last)

pub returns-clause-local : goal.returns-clause-local
returns-clause-local c = λ local.
    let first = local_with_made _ _ _ c.in_ok-command.ensures.local c.classify_command.ensures.local local in
    let second = local_with_made _ _ _ c.in_ok-command-2.ensures.local c.check_command.ensures.local first in
    returned_local_with_made _ _ _ c.with_subcommand-3.ensures.local c.convert_command.ensures.local second
