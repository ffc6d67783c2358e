use Rattle.std.proofs.Common.{◌≡◌, ℕ, sym, subst}
use Rattle.std.proofs.lemmas.Result.{IfOk-weaker}
use Rattle.source_lines.specs.Sources.{SourceState}
use Rattle.certificate.specs.SourceReading.{IsStopped}
use Rattle.certificate.specs.declared.fault.TextFault.{TextFault}
use Rattle.certificate.specs.declared.fault.TextFault.TheVariants as text
use Rattle.cert_check.specs.SourceVerdicts.{IsJudgedFrom}
use Rattle.cert_check.specs.Tests.{IsReading}
use Rattle.cert_check.specs.declared.verdict.Reason.TheVariants as reason
use Rattle.cert_check.specs.declared.verdict.Verdict.TheVariants.{Rejected}
use Rattle.cert_check.proofs.Judging.{judged_at_end, judged_no_text}
use Rattle.cert_check.proofs.checker.verdict_on.Goals as goal

pub returns-in_ok-verdict_on_tested-in-Ok-clause-judged : goal.returns-in_ok-verdict_on_tested-in-Ok-clause-judged
returns-in_ok-verdict_on_tested-in-Ok-clause-judged c = λ start now r.
    let o = c.args.ontology.now in
    let read = subst (IsReading o start now) c.in-Ok.is r in
    judged_at_end o c.well_formed-2.ensures c.args.taxonomy.now c.args.instances.now start now c.in-Ok.tested c.in_ok-verdict_on_tested-in-Ok.field-0 read
    (c.in_ok-verdict_on_tested-in-Ok.ensures read.taken read.tested)

pub returns-in-Err-clause-judged : goal.returns-in-Err-clause-judged
returns-in-Err-clause-judged c =
    let o = c.args.ontology.now in
    let t = c.args.taxonomy.now in
    let i = c.args.instances.now in
    let fault = c.in-Err.fault in
    IfOk-weaker c.verdict_on_fault.result
    (λ v. (at : ℕ) × (fault ≡ text.BadText at) × (v ≡ Rejected (reason.BadText at)))
    (λ v. (start now : SourceState) → IsReading o start now c.args.read → IsJudgedFrom o t i start now v)
    (λ v (at, is, says) start now r.
    let stopped = subst (λ (f : TextFault). IsStopped f o start now) is (subst (IsReading o start now) c.in-Err.is r) in
    subst (IsJudgedFrom o t i start now) (sym says) (judged_no_text o c.well_formed-2.ensures t i start now at stopped))
    c.verdict_on_fault.ensures.rejected
