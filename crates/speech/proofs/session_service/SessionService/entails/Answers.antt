use Rattle.std.proofs.Common.{refl}
use Rattle.session.specs.Edits.{Entail, Entailed}
use Rattle.speech.proofs.Calling.{entail_call, no_text_said, text_called}
use Rattle.speech.proofs.session_service.SessionService.entails.Goals as goal

pub returns-in-Err : goal.returns-in-Err
returns-in-Err c =
    no_text_said c.args.self.now.limits (λ text. Entail text c.args.self.now.limits.max_facts) c.args.payload.now c.args.self.now.session c.valid_up_to.result _ c.no_text.result
    c.in-Err.ensures.cases.0 c.in-Err.ensures.cases.1 c.valid_up_to.ensures c.no_text.ensures

pub returns : goal.returns
returns c =
    let s = c.args.self.now.session in
    let most = c.args.self.now.limits.max_facts in
    text_called c.args.self.now.limits (λ text. Entail text most) c.args.payload.now c.in-Ok.text.now s s (Entailed c.entails.result) c.entailed_reply.result
    c.in-Ok.ensures.cases.0 (entail_call s c.in-Ok.text.now most c.entails.result c.entails.ensures.exact c.entails.ensures.refused) refl c.entailed_reply.ensures
