use Rattle.std.proofs.Common.{subst, sym}
use Rattle.std.specs.Prelude.{IfOk}
use Rattle.classification.specs.Findings.{IsCertificateOf}
use Rattle.classification.proofs.classification.certificate_of.Goals as goal

pub returns-then-consistent : goal.returns-then-consistent
returns-then-consistent g c =
    subst (λ b. IfOk c.certificate_of_closure.result (λ v. IsCertificateOf c.args.closed.now.ontology g.F.FormatType.format b v.items)) (sym c.if-consistent.true) c.certificate_of_closure.ensures

pub returns-else-consistent : goal.returns-else-consistent
returns-else-consistent g c =
    subst (λ b. IfOk c.certificate_of_contradiction.result (λ v. IsCertificateOf c.args.closed.now.ontology g.F.FormatType.format b v.items)) (sym c.if-consistent.false) c.certificate_of_contradiction.ensures
