use Rattle.std.proofs.Common.{map}
use Rattle.clap.specs.Words.{app_of}
use Rattle.command_line.proofs.Receiving.{asked, refused}
use Rattle.command_line.proofs.receiver.receiver_task.Goals as goal

pub returns-in-Some-clause-asked : goal.returns-in-Some-clause-asked
returns-in-Some-clause-asked c =
    asked c.asks_conversion-converts.result (map (λ w. w.now) c.args.words.now) (map (λ w. w.now) c.ruled_words.result.now) (app_of c.in-Ok.command) c.in-Ok-try_get_matches_from_mut.matches c.in-Some.task
    c.asks_conversion-converts.ensures c.in-Ok.ensures c.ruled_words.ensures c.in-Ok-try_get_matches_from_mut.ensures.ok.2 c.in-Some.ensures

pub returns-in-None-clause-refused : goal.returns-in-None-clause-refused
returns-in-None-clause-refused c =
    refused c.asks_conversion-converts.result (map (λ w. w.now) c.args.words.now) (map (λ w. w.now) c.ruled_words.result.now) (app_of c.in-Ok.command) c.in-Ok-try_get_matches_from_mut.matches
    c.asks_conversion-converts.ensures c.in-Ok.ensures c.ruled_words.ensures c.in-Ok-try_get_matches_from_mut.ensures.ok.2 c.in-None.ensures c.missing_words.result
