use Rattle.std.proofs.Common.{Ok, Err, refl}
use Rattle.speech.proofs.Calling.{asked}
use Rattle.speech.proofs.session_service.SessionService.ask.Goals as goal

pub returns-in-Ok : goal.returns-in-Ok
returns-in-Ok c = asked c.args.self.now.limits c.args.self.now.session c.args.question c.args.spelling (Ok c.in-Ok.answer) c.answered.result (c.in-Ok.ensures.asked, c.in-Ok.ensures.exact, refl) c.answered.ensures

pub returns-in-Err : goal.returns-in-Err
returns-in-Err c = asked c.args.self.now.limits c.args.self.now.session c.args.question c.args.spelling (Err c.in-Err.fault) c.ask_reply.result (c.in-Err.ensures.refused, refl) c.ask_reply.ensures
