use Rattle.std.proofs.Common.{sym, arith, ltb, ◌&&◌}
use Rattle.certificate.specs.Tests.{is_small}
use Rattle.certificate.specs.Text.{individual_text}
use Rattle.certificate.specs.ListedReading.{individual_at}
use Rattle.certificate.proofs.RowLines.{reads_element, one_read, none_read_at_all, more_than_that}
use Rattle.certificate.proofs.single_rows.element_line.Goals as goal

pub returns-in_default : goal.returns-in_default
returns-in_default c =
    let d = c.args.domain in
    let k = c.args.number in
    none_read_at_all (λ x. individual_text (k, x)) (λ x. is_small k && ltb x d) (individual_at d k) (reads_element d k (omega (arith, c.ranges.domain.fits)))
    c.args.bytes.now (sym c.in_default.ensures)

pub returns-then-not-is_empty : goal.returns-then-not-is_empty
returns-then-not-is_empty c =
    let d = c.args.domain in
    let k = c.args.number in
    more_than_that (λ x. individual_text (k, x)) (λ x. is_small k && ltb x d) (individual_at d k) (reads_element d k (omega (arith, c.ranges.domain.fits)))
    c.args.bytes.now c.in-Some.element c.in-Some.rest.now (sym c.in-Some.ensures) (sym c.if-not-is_empty.ensures)

pub returns : goal.returns
returns c =
    let d = c.args.domain in
    let k = c.args.number in
    one_read (λ x. individual_text (k, x)) (λ x. is_small k && ltb x d) (individual_at d k) (reads_element d k (omega (arith, c.ranges.domain.fits)))
    c.args.bytes.now c.in-Some.element c.in-Some.rest.now (sym c.in-Some.ensures) (sym c.if-not-is_empty.ensures)
