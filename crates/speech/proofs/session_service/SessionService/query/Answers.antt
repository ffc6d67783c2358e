use Rattle.std.proofs.Common.{refl}
use Rattle.session.specs.Edits.{Found, Query}
use Rattle.speech.specs.Answers.{found}
use Rattle.speech.proofs.Calling.{no_text_said, query_call, text_called}
use Rattle.speech.proofs.session_service.SessionService.query.Goals as goal

pub returns-in-Err : goal.returns-in-Err
returns-in-Err c =
    no_text_said c.args.self.now.limits (λ text. Query text c.args.self.now.limits.max_facts) c.args.payload.now c.args.self.now.session c.valid_up_to.result _ c.no_text.result
    c.in-Err.ensures.cases.0 c.in-Err.ensures.cases.1 c.valid_up_to.ensures c.no_text.ensures

pub returns : goal.returns
returns c =
    let s = c.args.self.now.session in
    let most = c.args.self.now.limits.max_facts in
    text_called c.args.self.now.limits (λ text. Query text most) c.args.payload.now c.in-Ok.text.now s s (Found (found c.query.result)) c.found_reply.result
    c.in-Ok.ensures.cases.0 (query_call s c.in-Ok.text.now most c.query.result c.query.ensures.exact c.query.ensures.refused) refl c.found_reply.ensures
