use Rattle.std.proofs.Common.{ℕ, Option, sym, subst}
use Rattle.answers.specs.Selections.{IsOnly, PutsInClass}
use Rattle.answers.proofs.MarkedFacts.{none_given}
use Rattle.answers.proofs.marks.above.Goals as goal

pub returns-in_err-above : goal.returns-in_err-above
returns-in_err-above c =
    let gives = PutsInClass c.args.ontology.now c.args.context c.args.fact.now in
    subst (λ (answer : Option ℕ). IsOnly gives answer) (sym c.from_residual.ensures) (none_given gives (λ n v. c.in_err-above.ensures v.0 v.2))
