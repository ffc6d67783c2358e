use Rattle.std.proofs.Common.{subst₂}
use Rattle.answers.specs.Questions.{IsAnswerTo}
use Rattle.session.proofs.Parts.{lacking_within}
use Rattle.session.proofs.shown.answer_text.Goals as goal

pub text_of_lacking-requires : goal.text_of_lacking-requires
text_of_lacking-requires c =
    let o = c.args.ontology.now in
    let lacks = c.in-Lacks-Lacks in
    lacking_within o c.well_formed-in-Lacks-Lacks.ensures lacks.field-0-0 lacks.field-1-0.now lacks.lacking (subst₂ (IsAnswerTo o) lacks.is-0 lacks.is-1 c.requires)
