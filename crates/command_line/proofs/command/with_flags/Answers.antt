use Rattle.std.proofs.Common.{◌≡◌, IfOk, codes, subst}
use Rattle.clap.specs.Words.{App, app_of, with_rule}
use Rattle.command_line.specs.CommandLine.{flag}
use Rattle.command_line.proofs.command.with_flags.Goals as goal

pub returns-clause-app : goal.returns-clause-app
returns-clause-app c =
    let P : App → Type 0 = λ app. IfOk c.with_flag-3.result (λ last. app_of last ≡ with_rule app (flag (codes "axioms"))) in
    let Q : App → Type 0 = λ app. P (with_rule app (flag (codes "reached"))) in
    subst Q c.in_ok-command.ensures.app (subst P c.in_ok-command-2.ensures.app c.with_flag-3.ensures.app)
