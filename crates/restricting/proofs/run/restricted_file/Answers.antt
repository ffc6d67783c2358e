use Rattle.std.proofs.Common.{◌∙◌, refl}
use Rattle.receiving.proofs.ReadFiles.{IsOfFiles}
use Rattle.restricting.proofs.Restricted.{out_of_memory, restriction_made}
use Rattle.receiving.proofs.Stored.{stays}
use Rattle.receiving.proofs.Written.{written}
use Rattle.receiving.specs.Files.{Store, store}
use Rattle.telling.specs.Devices.{Device, seen}
use Rattle.source_lines.specs.Sources.{source_state}
use Rattle.restricting.proofs.run.restricted_file.Goals as goal

pub returns-in_default : goal.returns-in_default
returns-in_default g c =
    out_of_memory c.args.run.now.lines c.args.run.now.reading.limits c.args.run.now.reading.path.now c.args.run.now.output.now (store g.F.Files c.args.files.now c.args.files.now) (g.F.Files.content c.args.files.now) (g.F.Files.content c.args.files.now) c.unread.result c.unread.ensures
    (stays (g.F.Files.is_known c.args.files.now) _ _ refl) refl (λ other no. refl)

pub returns-in_default-writer : goal.returns-in_default-writer
returns-in_default-writer g c =
    out_of_memory c.args.run.now.lines c.args.run.now.reading.limits c.args.run.now.reading.path.now c.args.run.now.output.now (store g.F.Files c.args.files.now c.writer.new.self) (g.F.Files.content c.args.files.now) (g.F.Files.content c.writer.new.self) c.unread-in_default-writer.result c.unread-in_default-writer.ensures
    (stays (g.F.Files.is_known c.args.files.now) _ _ (c.writer.ensures.kept c.args.run.now.output.now)) c.writer.ensures.unfailed (λ other no. c.writer.ensures.kept other)

pub returns : goal.returns
returns g c =
    let files = g.F.Files in
    let source = g.F.In.Source in
    let sink = g.F.Out.Sink in
    let call = c.restrict_document-answer in
    let output = c.args.run.now.output.now in
    let first = c.args.files.now in
    let last = c.close.new.self in
    let known = files.is_known first in
    let s : Store = store files first last in
    let old : Device = seen sink c.in-Ok-writer.written in
    let new : Device = seen sink call.new.output in
    let of : IsOfFiles files.reads_fail known (source_state source call.new.document) = record {
      all_known = λ e. g.met.F.Files.all_known e first;
      unfailing = λ e. g.met.F.Files.unfailing e call.new.document;
    } in
    restriction_made c.args.run.now.lines c.args.run.now.reading.limits c.args.run.now.reading.path.now output s (files.content first) (files.content last) (source_state source c.in-Ok.document) (source_state source call.new.document) old new call.result
    c.in-Ok.ensures of
    (written s (files.content first) (files.content c.writer.new.self) (files.content last) (files.failed_writes c.writer.new.self) (sink.path call.new.output) output old new
    c.in-Ok-writer.ensures.taken c.in-Ok-writer.ensures.failures (call.ensures.path ∙ c.in-Ok-writer.ensures.path) c.writer.ensures.kept c.writer.ensures.unfailed c.close.ensures.closed c.close.ensures.unfailed c.close.ensures.failed)
    call.ensures.answered call.ensures.read call.ensures.beyond
