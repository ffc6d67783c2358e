use Rattle.std.proofs.Common.{◌+◌, map, take, get_or, sym, subst}
use Rattle.std.proofs.lemmas.Option.{slice_get-get_or}
use Rattle.certificate.specs.View.{claim_of}
use Rattle.certificate.specs.declared.listed.Claim.{Claim}
use Rattle.cert_check.specs.Lists.{AreClaimed}
use Rattle.cert_check.proofs.Claimed.{claim_step, no_claim_step}
use Rattle.cert_check.proofs.claims.claimed_elements.Goals as goal
use Rattle.cert_check.proofs.claims.claimed_elements.Goals.{in-Some, in_default}

pub loop-claim-preserved : goal.loop-claim-preserved
loop-claim-preserved c =
    let o = c.args.ontology.now in
    let claims = c.args.claims.now in
    let k = c.loop-claim.claim-index in
    let none : Claim = record { class = record { 0 = 0 }; element = 0 } in
    let claim = get_or claims k none in
    let there = slice_get-get_or claims k none c.loop-claim-test.true in
    elim c.match-class_of.branch [
      | in-Some w ↦
          subst (λ v. AreClaimed o (map claim_of (take (k + 1) claims)) v.items) (sym w.elements-is)
          (claim_step o c.well_formed-2.ensures claims c.requires k claim there c.loop-claim.elements.items c.loop-claim.invariant w.in-Some.class.0 w.in-Some.ensures.0)
      | in_default w ↦
          subst (λ v. AreClaimed o (map claim_of (take (k + 1) claims)) v.items) (sym w.elements-is)
          (no_claim_step o c.well_formed-2.ensures claims c.requires k claim there c.loop-claim.elements.items c.loop-claim.invariant w.in_default.ensures)
    ]
