use Rattle.std.proofs.Common.{ℕ, Option, sym, subst}
use Rattle.answers.specs.Selections.{IsOnly, PutsClass}
use Rattle.answers.proofs.MarkedFacts.{none_given}
use Rattle.answers.proofs.marks.below.Goals as goal

pub returns-in_err-below : goal.returns-in_err-below
returns-in_err-below c =
    let gives = PutsClass c.args.ontology.now c.args.above.0 c.args.fact.now in
    subst (λ (answer : Option ℕ). IsOnly gives answer) (sym c.from_residual.ensures) (none_given gives (λ n v. c.in_err-below.ensures v.0 v.2))
