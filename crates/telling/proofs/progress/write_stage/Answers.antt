use Rattle.std.proofs.Common.{subst, sym, OnErr, OnOk}
use Rattle.telling.specs.Devices.{FailsIn, Takes, seen}
use Rattle.telling.specs.Progress.{stage_text}
use Rattle.telling.specs.declared.progress.Stage.{Stage}
use Rattle.telling.proofs.progress.write_stage.Goals as goal

pub returns-in-Read-clause-whole : goal.returns-in-Read-clause-whole
returns-in-Read-clause-whole g c =
    let P : Stage → Type 0 = λ stage. OnOk c.write_counted.result (Takes (seen g.W.Sink c.args.sink.now) (seen g.W.Sink c.write_counted.new.sink) (stage_text stage)) in
    subst P (sym c.in-Read.is) c.write_counted.ensures.whole

pub returns-in-Read-clause-begun : goal.returns-in-Read-clause-begun
returns-in-Read-clause-begun g c =
    let P : Stage → Type 0 = λ stage. OnErr c.write_counted.result (FailsIn (seen g.W.Sink c.args.sink.now) (seen g.W.Sink c.write_counted.new.sink) (stage_text stage)) in
    subst P (sym c.in-Read.is) c.write_counted.ensures.begun

pub returns-in-Drawn-clause-whole : goal.returns-in-Drawn-clause-whole
returns-in-Drawn-clause-whole g c =
    let P : Stage → Type 0 = λ stage. OnOk c.write_counted-in-Drawn.result (Takes (seen g.W.Sink c.args.sink.now) (seen g.W.Sink c.write_counted-in-Drawn.new.sink) (stage_text stage)) in
    subst P (sym c.in-Drawn.is) c.write_counted-in-Drawn.ensures.whole

pub returns-in-Drawn-clause-begun : goal.returns-in-Drawn-clause-begun
returns-in-Drawn-clause-begun g c =
    let P : Stage → Type 0 = λ stage. OnErr c.write_counted-in-Drawn.result (FailsIn (seen g.W.Sink c.args.sink.now) (seen g.W.Sink c.write_counted-in-Drawn.new.sink) (stage_text stage)) in
    subst P (sym c.in-Drawn.is) c.write_counted-in-Drawn.ensures.begun

pub returns-in-Made-clause-whole : goal.returns-in-Made-clause-whole
returns-in-Made-clause-whole g c =
    let P : Stage → Type 0 = λ stage. OnOk c.write_counted-in-Made.result (Takes (seen g.W.Sink c.args.sink.now) (seen g.W.Sink c.write_counted-in-Made.new.sink) (stage_text stage)) in
    subst P (sym c.in-Made.is) c.write_counted-in-Made.ensures.whole

pub returns-in-Made-clause-begun : goal.returns-in-Made-clause-begun
returns-in-Made-clause-begun g c =
    let P : Stage → Type 0 = λ stage. OnErr c.write_counted-in-Made.result (FailsIn (seen g.W.Sink c.args.sink.now) (seen g.W.Sink c.write_counted-in-Made.new.sink) (stage_text stage)) in
    subst P (sym c.in-Made.is) c.write_counted-in-Made.ensures.begun

pub returns-in-Written-clause-whole : goal.returns-in-Written-clause-whole
returns-in-Written-clause-whole g c =
    let P : Stage → Type 0 = λ stage. OnOk c.write_counted-in-Written.result (Takes (seen g.W.Sink c.args.sink.now) (seen g.W.Sink c.write_counted-in-Written.new.sink) (stage_text stage)) in
    subst P (sym c.in-Written.is) c.write_counted-in-Written.ensures.whole

pub returns-in-Written-clause-begun : goal.returns-in-Written-clause-begun
returns-in-Written-clause-begun g c =
    let P : Stage → Type 0 = λ stage. OnErr c.write_counted-in-Written.result (FailsIn (seen g.W.Sink c.args.sink.now) (seen g.W.Sink c.write_counted-in-Written.new.sink) (stage_text stage)) in
    subst P (sym c.in-Written.is) c.write_counted-in-Written.ensures.begun

pub returns-in-TextsRead-clause-whole : goal.returns-in-TextsRead-clause-whole
returns-in-TextsRead-clause-whole g c =
    let P : Stage → Type 0 = λ stage. OnOk c.write_counted-in-TextsRead.result (Takes (seen g.W.Sink c.args.sink.now) (seen g.W.Sink c.write_counted-in-TextsRead.new.sink) (stage_text stage)) in
    subst P (sym c.in-TextsRead.is) c.write_counted-in-TextsRead.ensures.whole

pub returns-in-TextsRead-clause-begun : goal.returns-in-TextsRead-clause-begun
returns-in-TextsRead-clause-begun g c =
    let P : Stage → Type 0 = λ stage. OnErr c.write_counted-in-TextsRead.result (FailsIn (seen g.W.Sink c.args.sink.now) (seen g.W.Sink c.write_counted-in-TextsRead.new.sink) (stage_text stage)) in
    subst P (sym c.in-TextsRead.is) c.write_counted-in-TextsRead.ensures.begun
