use Rattle.receiving.proofs.ReadFiles.{IsOfFiles}
use Rattle.receiving.proofs.Refusals.{file_read}
use Rattle.source_lines.specs.Sources.{source_state}
use Rattle.receiving.proofs.lines.file_bytes.Goals as goal

pub returns : goal.returns
returns g c =
    let files = g.F.Files in
    let source = g.F.In.Source in
    let call = c.document_bytes in
    let known = files.is_known c.args.files.now in
    let of : IsOfFiles files.reads_fail known (source_state source call.new.document) = record {
      all_known = λ e. g.met.F.Files.all_known e c.args.files.now;
      unfailing = λ e. g.met.F.Files.unfailing e call.new.document;
    } in
    file_read c.args.reading.now.limits.max_bytes files.reads_fail known (files.content c.args.files.now c.args.reading.now.path.now) (source_state source c.in-Ok.document) (source_state source call.new.document) call.result
    c.in-Ok.ensures of call.ensures.known call.ensures.within call.ensures.unread call.ensures.beyond call.ensures.read
