use Rattle.std.proofs.Common.{◌∙◌, ℕ, inr, ⊎_elim, subst, sym}
use Rattle.std.proofs.lemmas.Bool.{false≢true}
use Rattle.axioms.specs.Ontology.{nothing}
use Rattle.answers.specs.Selections.{PutsExpression}
use Rattle.answers.proofs.marks.is_found_below.Goals as goal

pub returns-else-is_put : goal.returns-else-is_put
returns-else-is_put c = (
  λ t. (let (m, fact, at, puts) = c.is_empty.ensures.0 t in (m, fact, at, (c.in-Some.below.0, c.in-Some.ensures.found, inr puts))),
  λ (m, fact, at, (f, class, puts)).
      let same = c.in-Some.ensures.only f class in
      ⊎_elim
      (λ put. absurd (false≢true (sym c.if-is_put.false ∙ c.is_put.ensures.1 (m, fact, at, subst (λ (k : ℕ). PutsExpression fact k c.args.expression.0) same put))))
      (λ empty. c.is_empty.ensures.1 (m, fact, at, subst (λ (k : ℕ). PutsExpression fact k nothing) same empty))
      puts,
)

pub returns-in-None : goal.returns-in-None
returns-in-None c = (
  λ t. absurd (false≢true t),
  λ (m, fact, at, (f, class, puts)). absurd (c.in-None.ensures.found f class),
)
