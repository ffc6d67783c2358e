use Rattle.std.proofs.Common.{inl, map}
use Rattle.clap.specs.Words.{matches_of}
use Rattle.command_line.specs.Receiver.{asks_conversion, ruled_words, rules}
use Rattle.receiving.proofs.OneTask.{not_converting}
use Rattle.receiving.proofs.receiver.perform.Goals as goal

pub returns-in-Ok-clause-performed : goal.returns-in-Ok-clause-performed
returns-in-Ok-clause-performed g c = inl (c.in-Ok.task, c.in-Ok.ensures.asked, c.perform_task.ensures.performed)

pub returns-in-Ok-clause-untouched : goal.returns-in-Ok-clause-untouched
returns-in-Ok-clause-untouched g c none =
    let words = map (λ w. w.now) c.args.words.now in
    let converts = asks_conversion words in
    c.perform_task.ensures.untouched (not_converting converts (matches_of (rules converts) (ruled_words converts words)) c.in-Ok.task.request none c.in-Ok.ensures.asked.command)
