use Rattle.std.proofs.Common.{◌≡◌, ℕ, Bool, sym, subst}
use Rattle.std.specs.Prelude.{true}
use Rattle.clap.specs.Words.{found_of, rows_of}
use Rattle.command_line.specs.CommandLine.{IsLimitOfFacts, draws_facts}
use Rattle.command_line.proofs.words.limits.Goals as goal

pub returns-in_err-max_bytes : goal.returns-in_err-max_bytes
returns-in_err-max_bytes c = rw c.from_residual.ensures (λ limits are. c.in_err-max_bytes.ensures limits.max_bytes are.bytes.number)

pub returns-in_err-max_facts : goal.returns-in_err-max_facts
returns-in_err-max_facts c =
    let rows = rows_of (found_of c.args.inner.now) in
    let draws : draws_facts c.args.command.now ≡ true = sym c.if-draws_facts.ensures in
    let P : ℕ → Bool → Type 0 = λ limit d. IsLimitOfFacts d rows limit in
    rw c.from_residual-in_err-max_facts.ensures (λ limits are. c.in_err-max_facts.ensures limits.max_facts (subst (P limits.max_facts) draws are.facts).number)
