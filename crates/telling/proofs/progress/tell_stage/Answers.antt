use Rattle.std.proofs.Common.{rules}
use Rattle.telling.specs.Devices.{seen}
use Rattle.telling.specs.Progress.{IsStageTold}
use Rattle.telling.proofs.Told.{one_stage}
use Rattle.telling.proofs.progress.tell_stage.Goals as goal

pub returns-in-Ok-clause-progress : goal.returns-in-Ok-clause-progress
returns-in-Ok-clause-progress g c =
    let line : IsStageTold c.args.told c.args.stage.now (seen g.W.Sink c.args.sink.now) (seen g.W.Sink c.write_stage.new.sink) = search rules in
    one_stage c.args.told c.args.stage.now _ _ line

pub returns-in-Err-clause-progress : goal.returns-in-Err-clause-progress
returns-in-Err-clause-progress g c =
    let line : IsStageTold c.args.told c.args.stage.now (seen g.W.Sink c.args.sink.now) (seen g.W.Sink c.write_stage.new.sink) = search rules in
    one_stage c.args.told c.args.stage.now _ _ line
