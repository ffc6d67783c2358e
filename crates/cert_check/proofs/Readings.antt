-- What reading a source answers.
use Rattle.std.proofs.Common.{Result, Ok, Err, IfOk, IfErr}
use Rattle.axioms.specs.Ontology.{Ontology}
use Rattle.source_lines.specs.Sources.{SourceState}
use Rattle.certificate.specs.SourceReading.{IsStopped}
use Rattle.certificate.specs.declared.fault.TextFault.{TextFault}
use Rattle.cert_check.specs.Tests.{IsReading, IsTestedFrom}
use Rattle.cert_check.specs.declared.derivation.TestedCertificate.{TestedCertificate}

pub reading : (o : Ontology) (start now : SourceState) (read : Result TestedCertificate TextFault) → IfOk read (IsTestedFrom o start now) → IfErr read (λ fault. IsStopped fault o start now)
    → IsReading o start now read
reading o start now (Ok c) tested stopped = tested
reading o start now (Err fault) tested stopped = stopped
