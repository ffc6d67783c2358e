-- Every document of the profile is classified.
use Rattle.std.proofs.Common.{◌<◌, ◌≤◌, ℕ, List, [], length, Some, Ok, Err, subst, arith}
use Rattle.axioms.specs.Ontology.{Ontology}
use Rattle.cert_check.specs.Acceptance.{IsAcceptable}
use Rattle.classification.specs.Classifications.{AreCountsOf, IsWrittenIn}
use Rattle.cli.proofs.WrittenAccepted.{not_refused}
use Rattle.cli.specs.Theorems.{EveryDocumentIsClassified, StopsClassification}
use Rattle.cli.specs.declared.fault.ClassifyFault.TheVariants.{Document, Memory, Limit, Io}
use Rattle.profile.specs.Documents.{ReadsAs}
use Rattle.profile.specs.Faults.{RefusesKnown}
use Rattle.profile.specs.declared.fault.DocumentFault.{DocumentFault}
use Rattle.profile.specs.declared.fault.DocumentFault.TheVariants as reading
use Rattle.program.specs.declared.version.Version.{Version}
use Rattle.engine.specs.Saturations.{HasMoreFactsThan}
use Rattle.telling.proofs.OneOntology.{one_ontology}

-- bytes within the limit that read as an ontology are not refused
unrefused : (version : Version) (most facts : ℕ) (bytes : List ℕ) (o : Ontology) (fault : DocumentFault) → ReadsAs version bytes o → length bytes ≤ most → RefusesKnown version (Some bytes) most fault → StopsClassification o facts (Document fault)
unrefused version most facts bytes o (reading.NotUtf8 at) reads within refuses = absurd (not_refused version bytes o (reading.NotUtf8 at) reads (λ e. absurd (cc)) refuses.0)
unrefused version most facts bytes o reading.TooLarge reads within refuses = let more : most < length bytes = refuses in absurd (omega arith)
unrefused version most facts bytes o reading.Io reads within refuses = tt
unrefused version most facts bytes o (reading.Lex fault) reads within refuses = absurd (not_refused version bytes o (reading.Lex fault) reads (λ e. absurd (cc)) refuses.0)
unrefused version most facts bytes o (reading.Parse fault) reads within refuses = absurd (not_refused version bytes o (reading.Parse fault) reads (λ e. absurd (cc)) refuses.0)
unrefused version most facts bytes o (reading.Faults found) reads within refuses = absurd (not_refused version bytes o (reading.Faults found) reads (λ e. absurd (cc)) refuses.0)
unrefused version most facts bytes o reading.TooManyNames reads within refuses = absurd (not_refused version bytes o reading.TooManyNames reads (λ e. absurd (cc)) refuses.0)
unrefused version most facts bytes o reading.Memory reads within refuses = tt

pub every_document : EveryDocumentIsClassified
every_document version format most facts bytes o old new (Ok summary) reads within is =
    let texts = is.0 in
    let made = is.1 in
    let P : Ontology → Type 0 = λ p. AreCountsOf p summary × IsAcceptable p texts.taxonomy texts.instances texts.certificate × IsWrittenIn p format texts.certificate in
    let there = subst P (one_ontology version version bytes made.ontology o made.reads.0 reads) (made.counts, made.acceptable, made.written) in
    (there.0, (texts, there.1, there.2, is.2))
every_document version format most facts bytes o old new (Err (Document fault)) reads within is = unrefused version most facts bytes o fault reads within is.0
every_document version format most facts bytes o old new (Err Memory) reads within is = tt
every_document version format most facts bytes o old new (Err Limit) reads within is =
    let P : Ontology → Type 0 = λ p. HasMoreFactsThan p [] facts in
    subst P (one_ontology version version bytes is.0.0 o is.0.1.0 reads) is.0.2
every_document version format most facts bytes o old new (Err (Io n)) reads within is = tt
