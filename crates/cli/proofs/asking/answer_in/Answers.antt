use Rattle.answers.specs.Questions.{names_in}
use Rattle.cli.proofs.Blamed.{asks_file}
use Rattle.cli.proofs.Questions.{fault_in_file}
use Rattle.receiving.proofs.ReadFiles.{IsOfFiles}
use Rattle.source_lines.specs.Sources.{source_state}
use Rattle.cli.proofs.asking.answer_in.Goals as goal

pub returns-clause-blames : goal.returns-clause-blames
returns-clause-blames g c =
    let files = g.F.Files in
    let source = g.F.In.Source in
    let call = c.question_text in
    let known = files.is_known c.args.files.now in
    let of : IsOfFiles files.reads_fail known (source_state source call.new.source) = record {
      all_known = λ e. g.met.F.Files.all_known e c.args.files.now;
      unfailing = λ e. g.met.F.Files.unfailing e call.new.source;
    } in
    asks_file files.reads_fail known (files.content c.args.files.now c.args.run.now.reading.path.now) call.result c.args.run.now.reading.limits.max_bytes (source_state source c.in-Ok.document) (source_state source call.new.source) c.in-Ok.ensures of call.ensures.read call.ensures.beyond

pub returns-clause-fault : goal.returns-clause-fault
returns-clause-fault g c =
    fault_in_file c.question_text.result (g.F.Files.content c.args.files.now c.args.run.now.reading.path.now) (g.F.In.Source.left c.in-Ok.document) c.args.run.now.reading.limits (names_in c.args.run.now.question) c.in-Ok.ensures.left c.question_text.ensures.fault
