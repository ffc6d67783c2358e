use Rattle.std.proofs.Common.{◌≡◌, ap, arith, inr, rules}
use Rattle.program.specs.declared.status.Status.TheVariants.{Limit}
use Rattle.speech.specs.Answers.{stop_text}
use Rattle.speech.specs.Replies.{told}
use Rattle.speech.proofs.session_service.SessionService.stopped.Goals as goal

pub returns-in-Ok : goal.returns-in-Ok
returns-in-Ok c =
    let text : c.into_bytes.result.items ≡ stop_text c.args.self.now.session = search rules in
    inr (omega (arith, c.requires, c.if-end-self.false), ap (told Limit) text)
