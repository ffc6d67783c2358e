use Rattle.std.proofs.Common.{ℕ, List, Some, None, subst}
use Rattle.std.proofs.lemmas.Result.{err_from_is_err_and}
use Rattle.certificate.specs.LineValues.{IsDomainLine}
use Rattle.certificate.proofs.ReaderSteps.{domain_read, domain_stops, no_domain_stops}
use Rattle.certificate.proofs.line_reader.LineReader.domain.Goals as goal

pub returns-in_default-clause-fault : goal.returns-in_default-clause-fault
returns-in_default-clause-fault g c =
    let none = subst (λ (bytes : List ℕ). IsDomainLine bytes None) c.line.ensures c.in_default.ensures in
    no_domain_stops _ c.args.self.now c.bad_text.result c.requires.consistent c.requires.none none c.bad_text.ensures

pub returns-in_err-let_go-clause-fault : goal.returns-in_err-let_go-clause-fault
returns-in_err-let_go-clause-fault g c =
    let p = err_from_is_err_and c.from_residual.result c.from_residual.ensures.1 in
    let some = subst (λ (bytes : List ℕ). IsDomainLine bytes (Some c.in-Some.domain)) c.line.ensures c.in-Some.ensures in
    rw (p.1, p.2) (domain_stops _ _ c.args.self.now c.in-Some.domain c.in_err-let_go.field-0.0 c.in_err-let_go.ensures.bounded c.requires.consistent some c.in_err-let_go.ensures.fault)

pub returns-clause-domain : goal.returns-clause-domain
returns-clause-domain g c =
    let some = subst (λ (bytes : List ℕ). IsDomainLine bytes (Some c.in-Some.domain)) c.line.ensures c.in-Some.ensures in
    domain_read _ _ c.args.self.now c.let_go.new.self c.in-Some.domain c.requires.consistent some c.in_ok-let_go.ensures.ok
