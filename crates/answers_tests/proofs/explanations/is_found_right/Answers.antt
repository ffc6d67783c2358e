use Rattle.std.proofs.Common.{◌∙◌, ap, subst, sym}
use Rattle.axioms.specs.Ontology.{Ontology}
use Rattle.engine.specs.Closed.{Closed}
use Rattle.answers.specs.Explanations.{Explains}
use Rattle.answers_tests.proofs.explanations.is_found_right.Goals as goal

pub is_right_of-requires : goal.is_right_of-requires
is_right_of-requires c =
    let asked = c.args.question.now.asked in
    let class = c.args.question.now.class.now in
    let same = c.ontology-ontology.ensures ∙ ap (λ (k : Closed). k.ontology) c.closed-closed.ensures in
    (asked, class, subst (λ (o : Ontology). Explains o asked class c.in-Ok-Some.found) (sym same) (rw (c.in-Ok-Some.field-0-is) at c.in-Ok-Some.ensures))
