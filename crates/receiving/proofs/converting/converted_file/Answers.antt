use Rattle.std.proofs.Common.{◌∙◌, refl}
use Rattle.receiving.proofs.Converted.{conversion_made}
use Rattle.receiving.proofs.Kept.{refused_memory}
use Rattle.receiving.proofs.ReadFiles.{IsOfFiles}
use Rattle.receiving.proofs.Stored.{stays}
use Rattle.receiving.proofs.Written.{written}
use Rattle.receiving.specs.Files.{Store, store}
use Rattle.telling.specs.Devices.{Device, seen}
use Rattle.source_lines.specs.Sources.{source_state}
use Rattle.receiving.proofs.converting.converted_file.Goals as goal

pub returns-in_default : goal.returns-in_default
returns-in_default g c = record { answered = (refused_memory _ _ _, stays (g.F.Files.is_known c.args.files.now) _ _ refl); blames = (tt, refl); others = λ other no. refl }

pub returns-in_default-writer : goal.returns-in_default-writer
returns-in_default-writer g c = record {
  answered = (refused_memory _ _ _, stays (g.F.Files.is_known c.args.files.now) _ _ (c.writer.ensures.kept c.args.run.now.conversion.output.now));
  blames = (tt, c.writer.ensures.unfailed);
  others = λ other no. c.writer.ensures.kept other;
}

pub returns : goal.returns
returns g c =
    let files = g.F.Files in
    let source = g.F.In.Source in
    let sink = g.F.Out.Sink in
    let call = c.convert_certificate-answer in
    let conversion = c.args.run.now.conversion in
    let first = c.args.files.now in
    let made = c.writer.new.self in
    let last = c.close.new.self in
    let known = files.is_known first in
    let s : Store = store files first last in
    let before = c.in-Ok.sources in
    let is = c.in-Ok.ensures in
    let opened = c.in-Ok-writer.converted in
    let old : Device = seen sink opened in
    let new : Device = seen sink call.new.converted in
    let of : IsOfFiles files.reads_fail known (source_state source call.new.document) = record {
      all_known = λ e. g.met.F.Files.all_known e first;
      unfailing = λ e. g.met.F.Files.unfailing e call.new.document;
    } in
    let of' : IsOfFiles files.reads_fail known (source_state source call.new.certificate) = record {
      all_known = λ e. g.met.F.Files.all_known e first;
      unfailing = λ e. g.met.F.Files.unfailing e call.new.certificate;
    } in
    conversion_made conversion c.args.run.now.limits s (files.content first) (files.content last) c.format_of.result
    (source_state source before.document, source_state source before.certificate) (source_state source call.new.document, source_state source call.new.certificate) old new call.result c.format_of.ensures
    is.document is.certificate of of'
    (written s (files.content first) (files.content made) (files.content last) (files.failed_writes made) (sink.path call.new.converted) conversion.output.now old new
    c.in-Ok-writer.ensures.taken c.in-Ok-writer.ensures.failures (call.ensures.path ∙ c.in-Ok-writer.ensures.path) c.writer.ensures.kept c.writer.ensures.unfailed c.close.ensures.closed c.close.ensures.unfailed c.close.ensures.failed)
    call.ensures.answered call.ensures.read call.ensures.beyond
