use Rattle.std.proofs.Common.{◌≡◌, IfOk, codes, subst}
use Rattle.clap.specs.Words.{App, app_of, with_rule}
use Rattle.command_line.specs.CommandLine.{flag}
use Rattle.command_line.proofs.command.with_lines.Goals as goal

pub returns-clause-app : goal.returns-clause-app
returns-clause-app c =
    let P : App → Type 0 = λ app. IfOk c.with_flag.result (λ last. app_of last ≡ with_rule app (flag (codes "lines"))) in
    subst P c.in_ok-command.ensures.app c.with_flag.ensures.app
