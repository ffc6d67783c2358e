use Rattle.std.proofs.Common.{rules, ◌≡◌, IfOk, codes, subst}
use Rattle.clap.specs.Words.{App, app_of, new_app, with_rule}
use Rattle.command_line.specs.CommandLine.{format, with_limits, with_paths, with_progress}
use Rattle.command_line.proofs.command.classify_command.Goals as goal

pub returns-clause-app : goal.returns-clause-app
returns-clause-app c =
    let P : App → Type 0 = λ app. IfOk c.with_limits.result (λ last. app_of last ≡ with_limits app) in
    let Q : App → Type 0 = λ app. P (with_progress app) in
    let R : App → Type 0 = λ app. Q (with_rule app format) in
    let S : App → Type 0 = λ app. R (with_paths app) in
    let new : app_of c.about-command.result ≡ new_app (codes "classify") = search rules in
    subst S new (subst R c.in_ok-command.ensures.app (subst Q c.in_ok-command-2.ensures.app (subst P c.in_ok-command-3.ensures.app c.with_limits.ensures.app)))
