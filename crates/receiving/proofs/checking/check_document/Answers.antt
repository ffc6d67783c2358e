use Rattle.std.proofs.Common.{refl}
use Rattle.profile.specs.declared.fault.DocumentFault.TheVariants as reading
use Rattle.receiving.proofs.Certificates.{checked, ends_before, ends_unjudged, never_fourth, same_fault}
use Rattle.receiving.specs.Checks.{Sources, states}
use Rattle.receiving.specs.declared.checking.Checked.{Checked}
use Rattle.receiving.specs.declared.checking.Texts.{Texts}
use Rattle.receiving.specs.declared.fault.CheckFault.TheVariants.{Document, Io}
use Rattle.telling.proofs.Told.{progress_behind}
use Rattle.receiving.proofs.checking.check_document.Goals as goal

-- ---- a text is not read

pub returns-in-Err-texts_of-clause-answered : goal.returns-in-Err-texts_of-clause-answered
returns-in-Err-texts_of-clause-answered g c =
    let old : Sources = states g.D.Source g.T.Source g.I.Source g.C.Source (c.args.document.now, c.args.taxonomy.now, c.args.instances.now, c.args.certificate.now) in
    let new : Sources = states g.D.Source g.T.Source g.I.Source g.C.Source (c.read_telling.new.source, c.texts_of.new.taxonomy, c.texts_of.new.instances, c.args.certificate.now) in
    (ends_before Texts c.args.limits.now.version c.args.limits.now.max_bytes (g.D.Source.left c.args.document.now) old new c.in-Err-texts_of.fault (c.in-Ok.ontology, c.in-Ok.ensures.reads) c.in-Ok.ensures.read refl c.in-Err-texts_of.ensures.read).answered

pub returns-in-Err-texts_of-clause-read : goal.returns-in-Err-texts_of-clause-read
returns-in-Err-texts_of-clause-read g c =
    let old : Sources = states g.D.Source g.T.Source g.I.Source g.C.Source (c.args.document.now, c.args.taxonomy.now, c.args.instances.now, c.args.certificate.now) in
    let new : Sources = states g.D.Source g.T.Source g.I.Source g.C.Source (c.read_telling.new.source, c.texts_of.new.taxonomy, c.texts_of.new.instances, c.args.certificate.now) in
    (ends_before Texts c.args.limits.now.version c.args.limits.now.max_bytes (g.D.Source.left c.args.document.now) old new c.in-Err-texts_of.fault (c.in-Ok.ontology, c.in-Ok.ensures.reads) c.in-Ok.ensures.read refl c.in-Err-texts_of.ensures.read).read

pub returns-in-Err-texts_of-clause-beyond : goal.returns-in-Err-texts_of-clause-beyond
returns-in-Err-texts_of-clause-beyond g c = λ e.
    let old : Sources = states g.D.Source g.T.Source g.I.Source g.C.Source (c.args.document.now, c.args.taxonomy.now, c.args.instances.now, c.args.certificate.now) in
    let new : Sources = states g.D.Source g.T.Source g.I.Source g.C.Source (c.read_telling.new.source, c.texts_of.new.taxonomy, c.texts_of.new.instances, c.args.certificate.now) in
    absurd ((ends_before Texts c.args.limits.now.version c.args.limits.now.max_bytes (g.D.Source.left c.args.document.now) old new c.in-Err-texts_of.fault (c.in-Ok.ontology, c.in-Ok.ensures.reads) c.in-Ok.ensures.read refl c.in-Err-texts_of.ensures.read).read_document
    reading.TooLarge (same_fault Checked c.in-Err-texts_of.fault (Document reading.TooLarge) e))

pub returns-in-Err-texts_of-clause-stops : goal.returns-in-Err-texts_of-clause-stops
returns-in-Err-texts_of-clause-stops g c = λ e.
    absurd (never_fourth Texts _ _ c.in-Err-texts_of.fault c.in-Err-texts_of.ensures.read (same_fault Checked c.in-Err-texts_of.fault (Io 4) e))

-- ---- the certificate is

pub returns-in-Ok-judged-clause-answered : goal.returns-in-Ok-judged-clause-answered
returns-in-Ok-judged-clause-answered g c =
    checked c.args.limits.now.version c.args.limits.now.max_bytes (g.D.Source.left c.args.document.now) (g.T.Source.left c.args.taxonomy.now) (g.I.Source.left c.args.instances.now) (g.C.Source.left c.args.certificate.now)
    c.in-Ok.ontology c.in-Ok-texts_of.texts.taxonomy.items c.in-Ok-texts_of.texts.instances.items c.in-Ok-judged.verdict c.in-Ok.ensures.reads c.well_formed-2.ensures c.in-Ok-texts_of.ensures.taxonomy c.in-Ok-texts_of.ensures.instances c.in-Ok-judged.ensures.judged

pub returns-in-Ok-judged-clause-progress : goal.returns-in-Ok-judged-clause-progress
returns-in-Ok-judged-clause-progress g c = progress_behind c.args.told _ _ _ c.read_telling.ensures.progress c.tell_stage.ensures.progress

-- ---- it is not

pub returns-in-Err-judged-clause-read : goal.returns-in-Err-judged-clause-read
returns-in-Err-judged-clause-read g c =
    let old : Sources = states g.D.Source g.T.Source g.I.Source g.C.Source (c.args.document.now, c.args.taxonomy.now, c.args.instances.now, c.args.certificate.now) in
    let new : Sources = states g.D.Source g.T.Source g.I.Source g.C.Source (c.read_telling.new.source, c.texts_of.new.taxonomy, c.texts_of.new.instances, c.judged.new.certificate) in
    let both = c.in-Ok-texts_of.ensures.read in
    (ends_unjudged c.args.limits.now.version c.args.limits.now.max_bytes (g.D.Source.left c.args.document.now) c.in-Ok.ontology old new c.in-Err-judged.fault (c.in-Ok.ontology, c.in-Ok.ensures.reads) c.in-Ok.ensures.read both.0 both.1 c.in-Err-judged.ensures.fault).read

pub returns-in-Err-judged-clause-progress : goal.returns-in-Err-judged-clause-progress
returns-in-Err-judged-clause-progress g c = progress_behind c.args.told _ _ _ c.read_telling.ensures.progress c.tell_stage.ensures.progress
