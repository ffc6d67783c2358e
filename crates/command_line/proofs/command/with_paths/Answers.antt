use Rattle.std.proofs.Common.{◌≡◌, IfOk, codes, subst}
use Rattle.clap.specs.Words.{App, app_of, with_rule}
use Rattle.command_line.specs.CommandLine.{path}
use Rattle.command_line.proofs.command.with_paths.Goals as goal

pub returns-clause-app : goal.returns-clause-app
returns-clause-app c =
    let P : App → Type 0 = λ app. IfOk c.with_path-4.result (λ last. app_of last ≡ with_rule app (path (codes "CERT"))) in
    let Q : App → Type 0 = λ app. P (with_rule app (path (codes "INST"))) in
    let R : App → Type 0 = λ app. Q (with_rule app (path (codes "TAX"))) in
    subst R c.in_ok-command.ensures.app (subst Q c.in_ok-command-2.ensures.app (subst P c.in_ok-command-3.ensures.app c.with_path-4.ensures.app))

pub returns-clause-local : goal.returns-clause-local
returns-clause-local c = λ local. c.with_path-4.ensures.local (c.in_ok-command-3.ensures.local (c.in_ok-command-2.ensures.local (c.in_ok-command.ensures.local local)))
