use Rattle.std.proofs.Common.{◌+◌, map, ap, sym, ◌∙◌, subst, arith}
use Rattle.std.proofs.lemmas.List.{map-append}
use Rattle.certificate.specs.View.{claim_of}
use Rattle.countermodel.proofs.FirstClaims.{AreFirstClaims, none_claimed, one_claimed, one_own, all_claimed}
use Rattle.countermodel.proofs.claims.own_claims.Goals as goal
use Rattle.countermodel.proofs.claims.own_claims.Goals.{in-Some+in_ok-push, in_default}

pub loop-number-preserved : goal.loop-number-preserved
loop-number-preserved c =
    let o = c.args.ontology.now in
    let elements = c.args.elements.now in
    let number = c.loop-number.number in
    let claims = map claim_of c.loop-number.claims.items in
    elim c.match-own_element.branch [
      | in-Some+in_ok-push w ↦
          subst (AreFirstClaims o elements (number + 1)) (sym (ap (λ v. map claim_of v.items) w.claims-is ∙ (ap (map claim_of) w.in_ok-push.ensures.items ∙ map-append claim_of c.loop-number.claims.items _)))
          (one_claimed o elements number claims c.loop-number.invariant w.in-Some.element w.in-Some.ensures (λ n other. one_own o elements c.requires number w.in-Some.element n w.in-Some.ensures other))
      | in_default w ↦
          subst (AreFirstClaims o elements (number + 1)) (sym (ap (λ v. map claim_of v.items) w.claims-is))
          (none_claimed o elements number claims c.loop-number.invariant w.in_default.ensures)
    ]

pub returns : goal.returns
returns c = all_claimed c.args.ontology.now c.args.elements.now c.loop-number.number (map claim_of c.loop-number.claims.items) (omega (arith, c.expression_count-number-end.ensures, c.loop-number-test.false)) c.loop-number.invariant
