use Rattle.std.proofs.Common.{◌≡◌, IfOk, codes, subst}
use Rattle.clap.specs.Words.{App, app_of, with_rule}
use Rattle.command_line.specs.CommandLine.{flag, path}
use Rattle.command_line.proofs.command.with_names.Goals as goal

pub returns-clause-app : goal.returns-clause-app
returns-clause-app c =
    let P : App → Type 0 = λ app. IfOk c.with_flag.result (λ last. app_of last ≡ with_rule app (flag (codes "individual"))) in
    let Q : App → Type 0 = λ app. P (with_rule app (path (codes "SUPER"))) in
    let R : App → Type 0 = λ app. Q (with_rule app (path (codes "SUB"))) in
    subst R c.in_ok-command.ensures.app (subst Q c.in_ok-command-2.ensures.app (subst P c.in_ok-command-3.ensures.app c.with_flag.ensures.app))

pub returns-clause-local : goal.returns-clause-local
returns-clause-local c = λ local. c.with_flag.ensures.local (c.in_ok-command-3.ensures.local (c.in_ok-command-2.ensures.local (c.in_ok-command.ensures.local local)))
