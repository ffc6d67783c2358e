use Rattle.std.proofs.Common.{◌≡◌, IfOk, codes, subst}
use Rattle.clap.specs.Words.{App, app_of, with_subcommand}
use Rattle.command_line.specs.CommandLine.{class_app}
use Rattle.command_line.proofs.Additions.{local_with_made, returned_local_with_made, returned_with_made, with_made}
use Rattle.command_line.proofs.command.with_related.Goals as goal

pub returns-clause-app : goal.returns-clause-app
returns-clause-app c =
    let P : App → Type 0 = λ app. IfOk c.with_subcommand-4.result (λ last. app_of last ≡ with_subcommand app (class_app (codes "equivalents")).top) in
    let Q : App → Type 0 = λ app. P (with_subcommand app (class_app (codes "subs")).top) in
    let R : App → Type 0 = λ app. Q (with_subcommand app (class_app (codes "supers")).top) in
    let first = with_made _ _ _ (class_app (codes "instances")) c.in_ok-command.ensures.app c.class_command.ensures.app c.class_command.ensures.local in
    let second = with_made _ _ _ (class_app (codes "supers")) c.in_ok-command-2.ensures.app c.class_command-2.ensures.app c.class_command-2.ensures.local in
    let third = with_made _ _ _ (class_app (codes "subs")) c.in_ok-command-3.ensures.app c.class_command-3.ensures.app c.class_command-3.ensures.local in
    let last = returned_with_made _ _ _ (class_app (codes "equivalents")) c.with_subcommand-4.ensures.app c.class_command-4.ensures.app c.class_command-4.ensures.local in
    subst R first (subst Q second (subst P third last))

pub returns-clause-local : goal.returns-clause-local
returns-clause-local c = λ local.
    let first = local_with_made _ _ _ c.in_ok-command.ensures.local c.class_command.ensures.local local in
    let second = local_with_made _ _ _ c.in_ok-command-2.ensures.local c.class_command-2.ensures.local first in
    let third = local_with_made _ _ _ c.in_ok-command-3.ensures.local c.class_command-3.ensures.local second in
    returned_local_with_made _ _ _ c.with_subcommand-4.ensures.local c.class_command-4.ensures.local third
