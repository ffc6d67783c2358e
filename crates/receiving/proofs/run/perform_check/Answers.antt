use Rattle.std.proofs.Common.{refl}
use Rattle.telling.specs.Printing.{outputs}
use Rattle.receiving.proofs.run.perform_check.Goals as goal

pub returns : goal.returns
returns g c =
    let call = c.checked_files-answer in
    record {
      begun = outputs g.O.Sink g.E.Sink c.args.out.now call.new.err;
      unprinted = refl;
      progress = call.ensures.progress;
      holds = record { answer = call.result; checked = call.ensures.checked; blames = call.ensures.blames; told = c.tell_checked.ensures };
    }
