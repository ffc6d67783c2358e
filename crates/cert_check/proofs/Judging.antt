-- From what reading a source answers to the verdict.
use Rattle.std.proofs.Common.{◌++◌, ℕ, List, inl, inr}
use Rattle.axioms.specs.Ontology.{Ontology}
use Rattle.axioms.specs.WellFormedness.{IsOntology}
use Rattle.source_lines.specs.Sources.{SourceState}
use Rattle.certificate.specs.SourceReading.{GivesNoText}
use Rattle.cert_check.specs.SourceVerdicts.{IsJudgedFrom, IsVerdictWith}
use Rattle.cert_check.specs.Tests.{IsTestedFrom}
use Rattle.cert_check.specs.Verdict.{IsVerdict}
use Rattle.cert_check.specs.declared.derivation.TestedCertificate.{TestedCertificate}
use Rattle.cert_check.specs.declared.verdict.Reason.TheVariants.{BadText}
use Rattle.cert_check.specs.declared.verdict.Verdict.{Verdict}
use Rattle.cert_check.specs.declared.verdict.Verdict.TheVariants.{Rejected}
use Rattle.cert_check.proofs.Exactness.{accepted_exactly, accepted_right, passed_lines}

-- what a verdict says
pub verdict_with : (o : Ontology) → IsOntology o → (t i text : List ℕ) (v : Verdict) → IsVerdict o t i text v → IsVerdictWith o t i text v
verdict_with o w t i text v h = record {
  verdict = h;
  accepted = accepted_exactly o w t i text v h;
  lines = passed_lines o w t i text v h;
  says = accepted_right o w t i text v h;
}

-- a certificate was read to its end
pub judged_at_end : (o : Ontology) → IsOntology o → (t i : List ℕ) (start now : SourceState) (read : TestedCertificate) (v : Verdict) (h : IsTestedFrom o start now read)
    → IsVerdict o t i h.taken v → IsJudgedFrom o t i start now v
judged_at_end o w t i start now read v h k = record {
  taken = h.taken;
  given = h.given;
  unfailed = h.unfailed;
  judged = inl (h.end, verdict_with o w t i h.taken v k);
}

-- the text is that of none
pub judged_no_text : (o : Ontology) → IsOntology o → (t i : List ℕ) (start now : SourceState) (at : ℕ) → GivesNoText o start now at → IsJudgedFrom o t i start now (Rejected (BadText at))
judged_no_text o w t i start now at h = record {
  taken = h.taken;
  given = h.given;
  unfailed = h.unfailed;
  judged = elim h.none [
    | inl ended ↦ inl (ended.0, verdict_with o w t i h.taken (Rejected (BadText at)) ended.1)
    | inr begun ↦ inr (tt, λ rest. verdict_with o w t i (h.taken ++ rest) (Rejected (BadText at)) (begun rest))
  ];
}
