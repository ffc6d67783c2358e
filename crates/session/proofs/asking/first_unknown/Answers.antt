use Rattle.std.proofs.Common.{All, subst, sym}
use Rattle.answers.specs.Questions.{HasName, IsFirstUnknown, names_in}
use Rattle.program.specs.declared.question.Question.{Question}
use Rattle.session.proofs.asking.first_unknown.Goals as goal

pub first_of_both-requires : goal.first_of_both-requires
first_of_both-requires c = subst (λ (q : Question). All (HasName c.args.ontology.now) (names_in q) → ⊥) c.in-Why.is c.requires

pub first_of_both-requires-in-Lacks : goal.first_of_both-requires-in-Lacks
first_of_both-requires-in-Lacks c = subst (λ (q : Question). All (HasName c.args.ontology.now) (names_in q) → ⊥) c.in-Lacks.is c.requires

pub returns-in-Why : goal.returns-in-Why
returns-in-Why c = subst (λ (q : Question). IsFirstUnknown c.args.ontology.now (names_in q) c.first_of_both.result.now) (sym c.in-Why.is) c.first_of_both.ensures

pub returns-in-Lacks : goal.returns-in-Lacks
returns-in-Lacks c = subst (λ (q : Question). IsFirstUnknown c.args.ontology.now (names_in q) c.first_of_both-in-Lacks.result.now) (sym c.in-Lacks.is) c.first_of_both-in-Lacks.ensures
