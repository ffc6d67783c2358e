use Rattle.std.proofs.Common.{rules, ◌≡◌, ℕ, List, subst}
use Rattle.clap.specs.Words.{rule_of}
use Rattle.command_line.specs.CommandLine.{number}
use Rattle.command_line.proofs.Numbers.{default_text}
use Rattle.command_line.proofs.command.one_or_two.Goals as goal

pub returns-clause-rule : goal.returns-clause-rule
returns-clause-rule c =
    let P : List ℕ → Type 0 = λ text. rule_of c.default_value.result ≡ number c.args.id.now 2 text in
    subst P default_text (search rules)
