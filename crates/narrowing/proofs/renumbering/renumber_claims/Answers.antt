use Rattle.std.proofs.Common.{◌≤◌, ◌<◌, length, map, get_or, ap, arith}
use Rattle.certificate.specs.View.{claim_of}
use Rattle.certificate.specs.declared.listed.Claim.{Claim}
use Rattle.narrowing.specs.Renumbered.{renumbered_claim}
use Rattle.certificate.proofs.Stepwise.{seen_more, seen_back}
use Rattle.narrowing.proofs.renumbering.renumber_claims.Goals as goal

pub loop-claim-preserved : goal.loop-claim-preserved
loop-claim-preserved g c =
    let below : c.loop-claim.claim-index < length c.loop-claim.claim-items = omega arith in
    let place = c.loop-claim.claim-index in
    let none : Claim = record { class = record { 0 = 0 }; element = 0 } in
    let new : Claim = record { class = (get_or c.loop-claim.claim-items place none).class; element = c.number_of-claim.result } in
    seen_more claim_of (renumbered_claim (g.N.Numbering.number c.args.numbering.now)) place (map claim_of c.args.claims.now.items) c.loop-claim.claim-items new none below c.loop-claim.invariant (ap (λ e. (new.class.0, e)) c.number_of-claim.ensures)

pub returns : goal.returns
returns g c =
    let old = c.args.claims.now in
    let end : length old.items ≤ c.loop-claim.claim-index = omega (arith, ap length c.deref_mut-claim-items.ensures.value) in
    seen_back claim_of (renumbered_claim (g.N.Numbering.number c.args.numbering.now)) old.len c.loop-claim.claim-index old.items c.loop-claim.claim-items old.ok.0 end c.loop-claim.invariant
