use Rattle.answers.specs.Questions.{names_in}
use Rattle.session.proofs.AtEnd.{answers_question, faults}
use Rattle.session.proofs.answering.question_text.Goals as goal

pub returns-in-Ok-clause-answered : goal.returns-in-Ok-clause-answered
returns-in-Ok-clause-answered g c = answers_question c.args.limits.now _ _ c.in-Ok.ensures.run c.answered-answered.result c.args.question c.args.spelling c.answered-answered.ensures.answered

pub returns-in-Ok-clause-fault : goal.returns-in-Ok-clause-fault
returns-in-Ok-clause-fault g c = faults c.args.limits.now _ _ c.in-Ok.ensures.run c.answered-answered.result (names_in c.args.question) c.answered-answered.ensures.fault
