use Rattle.receiving.proofs.Certificates.{certificate_judged, certificate_read}
use Rattle.source_lines.specs.Sources.{SourceState, source_state}
use Rattle.receiving.proofs.checking.judged.Goals as goal

pub returns-in-Ok-clause-judged : goal.returns-in-Ok-clause-judged
returns-in-Ok-clause-judged g c =
    let old : SourceState = source_state g.C.Source c.args.certificate.now in
    let new : SourceState = source_state g.C.Source c.check_from.new.certificate in
    certificate_judged c.args.ontology.now c.args.texts.now.taxonomy.items c.args.texts.now.instances.items c.deref.result.now c.deref-2.result.now old new c.in-Ok.verdict c.deref.ensures.value c.deref-2.ensures.value c.in-Ok.ensures.judged

pub returns-in-Ok-clause-read : goal.returns-in-Ok-clause-read
returns-in-Ok-clause-read g c =
    let old : SourceState = source_state g.C.Source c.args.certificate.now in
    let new : SourceState = source_state g.C.Source c.check_from.new.certificate in
    certificate_read c.args.ontology.now c.deref.result.now c.deref-2.result.now old new c.in-Ok.verdict c.in-Ok.ensures.judged
