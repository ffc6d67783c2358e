use Rattle.std.proofs.Common.{rules, ◌≡◌, ℕ, List, subst}
use Rattle.std.specs.Prelude.{codes}
use Rattle.clap.specs.Words.{rule_of}
use Rattle.command_line.specs.CommandLine.{most_bytes, number}
use Rattle.program.proofs.Texts.{bytes_text}
use Rattle.command_line.proofs.command.max_bytes_option.Goals as goal

pub returns-clause-rule : goal.returns-clause-rule
returns-clause-rule c =
    let P : List ℕ → Type 0 = λ text. rule_of c.default_value.result ≡ number (codes "max-bytes") most_bytes text in
    subst P bytes_text (search rules)
