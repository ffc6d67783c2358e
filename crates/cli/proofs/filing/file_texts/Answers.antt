use Rattle.certificate.specs.declared.format.Format.TheVariants.{Two}
use Rattle.cli.proofs.Filed.{texts_answer, texts_blamed}
use Rattle.cli.proofs.Stored.{others_kept, three_written}
use Rattle.receiving.proofs.Stored.{stays}
use Rattle.cli.proofs.filing.file_texts.Goals as goal

pub returns-in_default-clause-filed : goal.returns-in_default-clause-filed
returns-in_default-clause-filed g c =
    let known = g.F.Files.is_known c.args.files.now in
    record {
      answered = λ path. stays known _ _ (c.sinks_of.ensures.kept path);
      blames = c.sinks_of.ensures.unfailed;
      others = λ path no_taxonomy no_instances no_certificate. c.sinks_of.ensures.kept path;
    }

pub returns-clause-filed : goal.returns-clause-filed
returns-clause-filed g c =
    let paths = c.args.paths.now in
    let files = g.F.Files in
    let sink = g.F.Out.Sink in
    let content = files.content c.args.files.now in
    let content' = files.content c.close-3.new.self in
    let made = c.in-Ok.sinks in
    let call = c.write-written in
    let after = call.new in
    let written = three_written files sink paths c.args.files.now c.sinks_of.new.files c.close.new.self c.close-2.new.self c.close-3.new.self
    (made.taxonomy, made.instances, made.certificate) (after.taxonomy, after.instances, after.certificate) c.in-Ok.ensures.fresh c.in-Ok.ensures.working c.sinks_of.ensures.kept c.sinks_of.ensures.unfailed call.ensures.paths
    (c.close.ensures.closed, c.close.ensures.unfailed, c.close.ensures.failed) (c.close-2.ensures.closed, c.close-2.ensures.unfailed, c.close-2.ensures.failed) (c.close-3.ensures.closed, c.close-3.ensures.unfailed, c.close-3.ensures.failed) in
    record {
      answered = texts_answer paths Two (files.is_known c.args.files.now) c.args.session.now content content' _ _ call.result written.fresh call.ensures.written written.closed;
      blames = texts_blamed c.args.session.now Two _ _ _ _ call.result written.working written.counted call.ensures.written;
      others = others_kept paths _ _ _ content content' written.closed;
    }
