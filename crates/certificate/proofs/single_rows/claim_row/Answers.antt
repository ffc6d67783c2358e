use Rattle.std.proofs.Common.{sym, ap, map, ◌∙◌}
use Rattle.std.proofs.lemmas.List.{map_push}
use Rattle.certificate.specs.Tests.{key}
use Rattle.certificate.specs.TextLines.{last_of}
use Rattle.certificate.specs.View.{claim_of, listing_of}
use Rattle.certificate.proofs.TakenRows.{claim_taken}
use Rattle.certificate.proofs.single_rows.claim_row.Goals as goal

pub returns : goal.returns
returns c format =
    let l = c.args.listed.now in
    claim_taken c.args.ontology.now format (listing_of l) c.args.bytes.now c.last_claim-last.result (claim_of c.in-Some.claim) (map claim_of c.push.new.self.items)
    (sym c.if-not-may_take_claim.ensures) (c.last_claim-last.ensures ∙ ap (λ rows. key (last_of (map claim_of rows))) c.deref.ensures.value) c.in-Some.ensures
    (ap (map claim_of) c.in_ok-push.ensures.items ∙ map_push claim_of l.rows.claims.items c.in-Some.claim)
