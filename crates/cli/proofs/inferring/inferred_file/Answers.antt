use Rattle.std.proofs.Common.{◌∙◌, refl}
use Rattle.cli.proofs.Inferences.{inference_made}
use Rattle.receiving.proofs.Kept.{refused_memory}
use Rattle.receiving.proofs.ReadFiles.{IsOfFiles}
use Rattle.receiving.proofs.Stored.{stays}
use Rattle.receiving.proofs.Written.{written}
use Rattle.receiving.specs.Files.{Store, store}
use Rattle.telling.specs.Devices.{Device, seen}
use Rattle.source_lines.specs.Sources.{source_state}
use Rattle.cli.proofs.inferring.inferred_file.Goals as goal

pub returns-in_default : goal.returns-in_default
returns-in_default g c = record { answered = (refused_memory c.args.run.now.reading.limits.version (g.F.Files.content c.args.files.now c.args.run.now.reading.path.now) c.args.run.now.reading.limits.max_bytes, stays (g.F.Files.is_known c.args.files.now) _ _ refl); blames = (tt, refl); others = λ other no. refl }

pub returns-in_default-writer : goal.returns-in_default-writer
returns-in_default-writer g c = record {
  answered = (refused_memory c.args.run.now.reading.limits.version (g.F.Files.content c.args.files.now c.args.run.now.reading.path.now) c.args.run.now.reading.limits.max_bytes, stays (g.F.Files.is_known c.args.files.now) _ _ (c.writer.ensures.kept c.args.run.now.output.now));
  blames = (tt, c.writer.ensures.unfailed);
  others = λ other no. c.writer.ensures.kept other;
}

pub returns : goal.returns
returns g c =
    let files = g.F.Files in
    let source = g.F.In.Source in
    let sink = g.F.Out.Sink in
    let call = c.infer_document-answer in
    let document = c.args.run.now.reading.path.now in
    let output = c.args.run.now.output.now in
    let first = c.args.files.now in
    let made = c.writer.new.self in
    let last = c.close.new.self in
    let known = files.is_known first in
    let s : Store = store files first last in
    let old : Device = seen sink c.in-Ok-writer.written in
    let new : Device = seen sink call.new.output in
    let of : IsOfFiles files.reads_fail known (source_state source call.new.document) = record {
      all_known = λ e. g.met.F.Files.all_known e first;
      unfailing = λ e. g.met.F.Files.unfailing e call.new.document;
    } in
    inference_made document output c.args.run.now.reading.limits s (files.content first) (files.content last) (source_state source c.in-Ok.document) (source_state source call.new.document) old new call.result
    c.in-Ok.ensures of
    (written s (files.content first) (files.content made) (files.content last) (files.failed_writes made) (sink.path call.new.output) output old new
    c.in-Ok-writer.ensures.taken c.in-Ok-writer.ensures.failures (call.ensures.path ∙ c.in-Ok-writer.ensures.path) c.writer.ensures.kept c.writer.ensures.unfailed c.close.ensures.closed c.close.ensures.unfailed c.close.ensures.failed)
    call.ensures.answered call.ensures.read call.ensures.beyond
