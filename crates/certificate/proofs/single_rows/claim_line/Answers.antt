use Rattle.std.proofs.Common.{sym, arith}
use Rattle.certificate.specs.Tests.{fits_claim}
use Rattle.certificate.specs.Text.{claim_text}
use Rattle.certificate.specs.ListedReading.{fitting_claim_at}
use Rattle.certificate.specs.View.{claim_of}
use Rattle.certificate.proofs.RowLines.{reads_claims, one_read, none_read_at_all, more_than_that}
use Rattle.certificate.proofs.single_rows.claim_line.Goals as goal

pub returns-in_default : goal.returns-in_default
returns-in_default c =
    let o = c.args.ontology.now in
    let d = c.args.domain in
    let last = c.args.last in
    none_read_at_all claim_text (fits_claim o d last) (fitting_claim_at o d last) (reads_claims o d last (omega (arith, c.ranges.domain.fits)))
    c.args.bytes.now (sym c.in_default.ensures)

pub returns-then-not-is_empty : goal.returns-then-not-is_empty
returns-then-not-is_empty c =
    let o = c.args.ontology.now in
    let d = c.args.domain in
    let last = c.args.last in
    more_than_that claim_text (fits_claim o d last) (fitting_claim_at o d last) (reads_claims o d last (omega (arith, c.ranges.domain.fits)))
    c.args.bytes.now (claim_of c.in-Some.claim) c.in-Some.rest.now (sym c.in-Some.ensures) (sym c.if-not-is_empty.ensures)

pub returns : goal.returns
returns c =
    let o = c.args.ontology.now in
    let d = c.args.domain in
    let last = c.args.last in
    one_read claim_text (fits_claim o d last) (fitting_claim_at o d last) (reads_claims o d last (omega (arith, c.ranges.domain.fits)))
    c.args.bytes.now (claim_of c.in-Some.claim) c.in-Some.rest.now (sym c.in-Some.ensures) (sym c.if-not-is_empty.ensures)
