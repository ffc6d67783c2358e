use Rattle.std.proofs.Common.{◌∙◌, [], ℕ, Err, ap, refl}
use Rattle.std.specs.Global.{Vec}
use Rattle.program.specs.declared.status.Status.TheVariants.{Done}
use Rattle.session.specs.Edits.{Add, Added}
use Rattle.speech.proofs.Calling.{no_text_said, text_added, text_called, told_same}
use Rattle.speech.proofs.session_service.SessionService.add.Goals as goal

pub returns-in-Err-clause-step : goal.returns-in-Err-clause-step
returns-in-Err-clause-step c =
    no_text_said c.args.self.now.limits (λ x. Add x) c.args.payload.now c.args.self.now.session c.valid_up_to.result _ c.no_text.result c.in-Err.ensures.cases.0 c.in-Err.ensures.cases.1 c.valid_up_to.ensures c.no_text.ensures

pub returns-in-Ok-add-clause-step : goal.returns-in-Ok-add-clause-step
returns-in-Ok-add-clause-step c =
    text_added c.args.self.now.limits c.args.payload.now c.in-Ok.text.now c.args.self.now.session c.add.new.self c.in-Ok-add.field-0 _
    c.in-Ok.ensures.cases.0 c.in-Ok-add.ensures.added
    (told_same c.done_reply.result.status Done c.done_reply.result.text.items [] c.done_reply.ensures.status (ap (λ (v : Vec ℕ). v.items) c.done_reply.ensures.text ∙ c.new.ensures.items))

pub returns-in-Err-add-clause-step : goal.returns-in-Err-add-clause-step
returns-in-Err-add-clause-step c =
    text_called c.args.self.now.limits (λ x. Add x) c.args.payload.now c.in-Ok.text.now c.args.self.now.session c.add.new.self (Added (Err c.in-Err-add.fault)) c.fault_reply.result
    c.in-Ok.ensures.cases.0 (c.in-Err-add.ensures.refused, c.in-Err-add.ensures.err) refl c.fault_reply.ensures
