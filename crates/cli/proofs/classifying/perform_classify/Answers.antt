use Rattle.std.proofs.Common.{refl}
use Rattle.telling.specs.Printing.{outputs}
use Rattle.cli.proofs.classifying.perform_classify.Goals as goal

pub returns : goal.returns
returns g c =
    let call = c.classified_files-answer in
    record {
      begun = outputs g.O.Sink g.E.Sink c.args.out.now call.new.err;
      unprinted = refl;
      progress = call.ensures.progress;
      holds = record { answer = call.result; made = call.ensures.made; told = c.tell_classified.ensures };
    }
