use Rattle.std.proofs.Common.{Ok, Err, inl, refl, subst}
use Rattle.inference.specs.declared.known_facts.Stop.{Stop}
use Rattle.inference.specs.declared.known_facts.Stop.TheVariants as stops
use Rattle.session.specs.Edits.{IsCall, Resume, Resumed}
use Rattle.speech.specs.Answers.{IsRunTold}
use Rattle.speech.specs.Replies.{out_of_memory, told_by}
use Rattle.speech.proofs.Calling.{run_to, told_or}
use Rattle.speech.proofs.session_service.SessionService.run_to.Goals as goal

pub returns-in-Ok-clause-step : goal.returns-in-Ok-clause-step
returns-in-Ok-clause-step c =
    run_to c.args.self.now.limits c.args.end c.args.self.now.session c.resume.new.self (Ok c.in-Ok.field-0) (told_by c.ended.result)
    (c.in-Ok.ensures.ontology, c.in-Ok.ensures.others, c.in-Ok.ensures.resumed, c.in-Ok.ensures.saturates)
    (told_or (IsRunTold c.args.self.now.limits c.args.end c.resume.new.self (Ok c.in-Ok.field-0)) c.ended.result c.ended.ensures)

pub returns-in-Err-Limit-clause-step : goal.returns-in-Err-Limit-clause-step
returns-in-Err-Limit-clause-step c =
    let P : Stop → Type 0 = λ stop. IsCall c.args.self.now.session (Resume c.args.end) (Resumed (Err stop)) c.resume.new.self in
    run_to c.args.self.now.limits c.args.end c.args.self.now.session c.resume.new.self (Err stops.Limit) (told_by c.stopped.result)
    (subst P c.in-Err-Limit.field-0-is (c.in-Err-Limit.ensures.ontology, c.in-Err-Limit.ensures.others, c.in-Err-Limit.ensures.resumed, c.in-Err-Limit.ensures.saturates))
    (told_or (IsRunTold c.args.self.now.limits c.args.end c.resume.new.self (Err stops.Limit)) c.stopped.result c.stopped.ensures)

pub returns-in-Err-Memory-clause-step : goal.returns-in-Err-Memory-clause-step
returns-in-Err-Memory-clause-step c =
    let P : Stop → Type 0 = λ stop. IsCall c.args.self.now.session (Resume c.args.end) (Resumed (Err stop)) c.resume.new.self in
    run_to c.args.self.now.limits c.args.end c.args.self.now.session c.resume.new.self (Err stops.Memory) out_of_memory
    (subst P c.in-Err-Memory.field-0-is (c.in-Err-Memory.ensures.ontology, c.in-Err-Memory.ensures.others, c.in-Err-Memory.ensures.resumed, c.in-Err-Memory.ensures.saturates)) (inl refl)
