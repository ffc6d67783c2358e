use Rattle.std.proofs.Common.{ℕ, Option, sym, subst}
use Rattle.answers.specs.Selections.{IsOnly, PutsIndividual}
use Rattle.answers.proofs.MarkedFacts.{none_given}
use Rattle.answers.proofs.marks.member.Goals as goal

pub returns-in_err-individual : goal.returns-in_err-individual
returns-in_err-individual c =
    let gives : ℕ → Type 0 = λ n. PutsIndividual c.args.fact.now n c.args.expression.0 in
    subst (λ (answer : Option ℕ). IsOnly gives answer) (sym c.from_residual.ensures) (none_given gives c.in_err-individual.ensures)
