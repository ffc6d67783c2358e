use Rattle.std.proofs.Common.{◌∙◌, ℕ, List, subst}
use Rattle.receiving.proofs.Counted.{IsCounted}
use Rattle.cli.proofs.FiledInference.{inference_begun}
use Rattle.receiving.proofs.Stored.{one_left}
use Rattle.device.specs.Device.{HasFailed}
use Rattle.telling.specs.Devices.{Device, FailsIn, seen}
use Rattle.cli.proofs.filing.file_inferred.Goals as goal

pub returns-clause-filed : goal.returns-clause-filed
returns-clause-filed g c =
    let files = g.F.Files in
    let sink = g.F.Out.Sink in
    let call = c.write_all-written in
    let path = c.args.path.now in
    let first = c.args.files.now in
    let last = c.close.new.self in
    let made = c.in-Ok.inferred in
    let is = c.in-Ok.ensures in
    let old : Device = seen sink c.in-Ok-writer.sink in
    let new : Device = seen sink call.new.sink in
    let same = call.ensures.path ∙ c.in-Ok-writer.ensures.path in
    let P : ℕ → Type 0 = λ n. HasFailed n (files.failed_writes last) in
    let counted : IsCounted (files.failed_writes first) (files.failed_writes last) new.1 = record {
      unfailed = λ e. c.close.ensures.unfailed e ∙ c.writer.ensures.unfailed;
      failed = λ h. subst P c.writer.ensures.unfailed (c.close.ensures.failed h);
    } in
    let Fails : List ℕ → Type 0 = λ text. FailsIn old new text in
    inference_begun path (files.is_known first) c.args.session.now (files.content first) (files.content last) (files.failed_writes first) (files.failed_writes last) old new made.summary made.text.items
    is.finished is.inferred c.in-Ok-writer.ensures.taken c.in-Ok-writer.ensures.failures
    (one_left (files.content first) (files.content c.writer.new.self) (files.content last) (sink.path call.new.sink) path (sink.taken call.new.sink) c.writer.ensures.kept same c.close.ensures.closed)
    counted (λ other no. c.close.ensures.closed.others other (λ e. no (e ∙ same)) ∙ c.writer.ensures.kept other)
    (subst Fails c.deref.ensures.value (c.in-Err-written.ensures.begun, c.in-Err-written.ensures.failed))
