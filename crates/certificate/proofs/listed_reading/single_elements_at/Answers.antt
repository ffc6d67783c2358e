use Rattle.std.proofs.Common.{None, sym}
use Rattle.certificate.specs.ListedReading.{elements_at}
use Rattle.certificate.proofs.Many.{one_more_read, all_read, shorter}
use Rattle.certificate.proofs.Decimals.{IsApart}
use Rattle.certificate.proofs.Derivations.{EndsLine, premise_text}
use Rattle.certificate.proofs.RowLaws.{each_element_reads}
use Rattle.certificate.proofs.listed_reading.single_elements_at.Goals as goal

pub loop-element-smaller : goal.loop-element-smaller
loop-element-smaller c =
    shorter IsApart EndsLine _ premise_text _ each_element_reads None c.loop-element.rest.now c.in-Some.element c.in-Some.others.now (sym c.in-Some.ensures)

pub loop-element-preserved : goal.loop-element-preserved
loop-element-preserved c =
    rw c.in_ok-push.ensures.ok (one_more_read _ c.args.bytes.now c.loop-element.items.items c.loop-element.rest.now c.in-Some.element c.in-Some.others.now c.loop-element.invariant (sym c.in-Some.ensures))

pub returns : goal.returns
unfolding elements_at
returns c d =
    all_read IsApart EndsLine _ premise_text _ each_element_reads c.args.bytes.now c.loop-element.items.items c.loop-element.rest.now c.loop-element.invariant (sym c.in_default.ensures)
