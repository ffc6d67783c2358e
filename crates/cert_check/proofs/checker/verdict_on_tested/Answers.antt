use Rattle.std.proofs.Common.{ℕ, Option, MatchOption, sym, subst}
use Rattle.certificate.specs.Certificate.{Listed}
use Rattle.cert_check.specs.Derivation.{IsDerivation}
use Rattle.cert_check.specs.Faults.{IsFirstBadLine}
use Rattle.cert_check.specs.Verdict.{Against, IsVerdict}
use Rattle.cert_check.proofs.Verdicts.{judged_verdict}
use Rattle.cert_check.proofs.checker.verdict_on_tested.Goals as goal

pub returns : goal.returns
returns c = λ text tested.
    let o = c.args.ontology.now in
    let t = c.args.taxonomy.now in
    let i = c.args.instances.now in
    let lines = tested.certificate.lines in
    let found = c.in_ok-found.found in
    let derivation = subst (λ (bad : Option ℕ). MatchOption bad (IsDerivation o lines) (IsFirstBadLine o lines)) c.in_default.is tested.bad_is in
    let against = c.in_ok-found.ensures lines tested.shown in
    subst (IsVerdict o t i text) (sym c.verdict_of.ensures)
    (judged_verdict o t i text tested.certificate found tested.text_is derivation (subst (λ (listed : Option Listed). Against o t i lines listed found) tested.listed_is against))
