use Rattle.std.proofs.Common.{◌-◌, ◌^◌, ap, sym, ◌∙◌}
use Rattle.std.specs.Prelude.{min}
use Rattle.fs_parser.proofs.Faults.{end_at_last}
use Rattle.fs_parser.proofs.document.end_of.Goals as goal

pub returns-in-Some : goal.returns-in-Some
returns-in-Some c = c.saturating_add.ensures ∙ ap (λ n. min n (2 ^ 64 - 1)) (sym (end_at_last c.args.tokens.now c.in-Some.token.now c.in-Some.ensures.value))
