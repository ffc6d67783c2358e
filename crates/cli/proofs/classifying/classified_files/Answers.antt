use Rattle.std.proofs.Common.{refl, subst}
use Rattle.certificate.specs.declared.format.Format.{Format}
use Rattle.cli.proofs.Blamed.{classifies_file}
use Rattle.receiving.proofs.Kept.{refused_memory}
use Rattle.cli.proofs.Left.{classify_answer}
use Rattle.cli.proofs.Stored.{others_kept, three_written}
use Rattle.receiving.proofs.Stored.{stays}
use Rattle.receiving.proofs.ReadFiles.{IsOfFiles}
use Rattle.source_lines.specs.Sources.{source_state}
use Rattle.receiving.specs.Files.{Store}
use Rattle.cli.specs.Runs.{IsClassifyMade}
use Rattle.cli.proofs.classifying.classified_files.Goals as goal

pub returns-in_default-clause-made : goal.returns-in_default-clause-made
returns-in_default-clause-made g c =
    let known = g.F.Files.is_known c.args.files.now in
    record { answered = (refused_memory _ _ _, λ path. stays known _ _ refl); blames = (tt, refl); others = λ path no_taxonomy no_instances no_certificate. refl }

pub returns-in_default-sinks_of-clause-made : goal.returns-in_default-sinks_of-clause-made
returns-in_default-sinks_of-clause-made g c =
    let known = g.F.Files.is_known c.args.files.now in
    record {
      answered = (refused_memory _ _ _, λ path. stays known _ _ (c.sinks_of.ensures.kept path));
      blames = (tt, c.sinks_of.ensures.unfailed);
      others = λ path no_taxonomy no_instances no_certificate. c.sinks_of.ensures.kept path;
    }

pub returns-clause-made : goal.returns-clause-made
returns-clause-made g c =
    let paths = c.args.run.now.paths in
    let limits = c.args.run.now.limits in
    let format = c.format_of.result in
    let files = g.F.Files in
    let source = g.F.In.Source in
    let sink = g.F.Out.Sink in
    let known = files.is_known c.args.files.now in
    let content = files.content c.args.files.now in
    let content' = files.content c.close-3.new.self in
    let before = c.in-Ok.document in
    let made = c.in-Ok-sinks_of.sinks in
    let call = c.classify_document-classified in
    let after = call.new in
    let written = three_written files sink paths c.args.files.now c.sinks_of.new.files c.close.new.self c.close-2.new.self c.close-3.new.self
    (made.taxonomy, made.instances, made.certificate) (after.taxonomy, after.instances, after.certificate) c.in-Ok-sinks_of.ensures.fresh c.in-Ok-sinks_of.ensures.working c.sinks_of.ensures.kept c.sinks_of.ensures.unfailed call.ensures.paths
    (c.close.ensures.closed, c.close.ensures.unfailed, c.close.ensures.failed) (c.close-2.ensures.closed, c.close-2.ensures.unfailed, c.close-2.ensures.failed) (c.close-3.ensures.closed, c.close-3.ensures.unfailed, c.close-3.ensures.failed) in
    let store : Store = record { is_known = known; reads_fail = files.reads_fail; failed_before = files.failed_writes c.args.files.now; failed_behind = files.failed_writes c.close-3.new.self } in
    let state = source_state source before in
    let state' = source_state source after.source in
    let of : IsOfFiles files.reads_fail known state' = record {
      all_known = λ e. g.met.F.Files.all_known e c.args.files.now;
      unfailing = λ e. g.met.F.Files.unfailing e after.source;
    } in
    let P : Format → Type 0 = λ f. IsClassifyMade paths f limits store content content' call.result in
    subst P c.format_of.ensures (record {
      answered = classify_answer paths format limits known content content' (source.left before) _ _ call.result c.in-Ok.ensures.left written.fresh call.ensures.answered written.closed;
      blames = classifies_file store limits.version format limits.max_facts limits.max_bytes (content paths.document.now) (source.left before) call.result state state' _ _ c.in-Ok.ensures of
          written.working written.counted call.ensures.read call.ensures.beyond call.ensures.answered;
      others = others_kept paths _ _ _ content content' written.closed;
    })
