use Rattle.std.proofs.lemmas.Result.{IfOk-weaker}
use Rattle.cli.proofs.Kept.{opens_file}
use Rattle.receiving.proofs.ReadFiles.{IsOfFiles}
use Rattle.cli.proofs.ReadFiles.{opened_blamed}
use Rattle.session.specs.Sessions.{Opened, as_read}
use Rattle.source_lines.specs.Sources.{source_state}
use Rattle.cli.proofs.speaking.session_in.Goals as goal

pub returns-clause-blames : goal.returns-clause-blames
returns-clause-blames g c =
    let files = g.F.Files in
    let source = g.F.In.Source in
    let call = c.open in
    let known = files.is_known c.args.files.now in
    let of : IsOfFiles files.reads_fail known (source_state source call.new.source) = record {
      all_known = λ e. g.met.F.Files.all_known e c.args.files.now;
      unfailing = λ e. g.met.F.Files.unfailing e call.new.source;
    } in
    opened_blamed Opened files.reads_fail known (files.content c.args.files.now c.args.reading.now.path.now) c.args.reading.now.limits.max_bytes (source_state source c.in-Ok.document) (source_state source call.new.source) call.result
    c.in-Ok.ensures of call.ensures.lost call.ensures.unfailed call.ensures.failed call.ensures.whole call.ensures.beyond

pub returns-clause-opened : goal.returns-clause-opened
returns-clause-opened g c = IfOk-weaker c.open.result _ _
    (λ s opens. opens_file c.args.reading.now.limits.version (g.F.Files.content c.args.files.now c.args.reading.now.path.now) _ c.args.reading.now.limits.max_bytes (as_read s) c.in-Ok.ensures.left opens)
    c.open.ensures.opened
