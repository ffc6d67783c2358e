use Rattle.receiving.proofs.CheckedFiles.{AreOfFiles, AreSourcesOf, check_answer, checks_files}
use Rattle.receiving.specs.Checks.{Sources, states}
use Rattle.receiving.proofs.run.checked_files.Goals as goal

pub returns-clause-checked : goal.returns-clause-checked
returns-clause-checked g c =
    let call = c.check_document in
    let is = c.in-Ok.ensures in
    check_answer c.args.run.now.paths c.args.run.now.limits.version c.args.run.now.limits.max_bytes (g.F.Files.content c.args.files.now) _ _ _ _ call.result is.document.left is.taxonomy.left is.instances.left is.certificate.left call.ensures.answered

pub returns-clause-blames : goal.returns-clause-blames
returns-clause-blames g c =
    let files = g.F.Files in
    let source = g.F.In.Source in
    let call = c.check_document in
    let made = c.in-Ok.sources in
    let is = c.in-Ok.ensures in
    let known = files.is_known c.args.files.now in
    let content = files.content c.args.files.now in
    let old : Sources = states source source source source (made.document, made.taxonomy, made.instances, made.certificate) in
    let new : Sources = states source source source source (call.new.document, call.new.taxonomy, call.new.instances, call.new.certificate) in
    let are : AreSourcesOf known content c.args.run.now.paths old = record { document = is.document; taxonomy = is.taxonomy; instances = is.instances; certificate = is.certificate } in
    let of : AreOfFiles files.reads_fail known new = record {
      document = record { all_known = λ e. g.met.F.Files.all_known e c.args.files.now; unfailing = λ e. g.met.F.Files.unfailing e call.new.document };
      taxonomy = record { all_known = λ e. g.met.F.Files.all_known e c.args.files.now; unfailing = λ e. g.met.F.Files.unfailing e call.new.taxonomy };
      instances = record { all_known = λ e. g.met.F.Files.all_known e c.args.files.now; unfailing = λ e. g.met.F.Files.unfailing e call.new.instances };
      certificate = record { all_known = λ e. g.met.F.Files.all_known e c.args.files.now; unfailing = λ e. g.met.F.Files.unfailing e call.new.certificate };
    } in
    checks_files files.reads_fail known content c.args.run.now.paths c.args.run.now.limits.max_bytes old new call.result are of call.ensures.read call.ensures.beyond
