use Rattle.std.proofs.Common.{refl}
use Rattle.std.specs.Prelude.{bit_or}
use Rattle.normal_forms.proofs.Suffice.{suffice}
use Rattle.inference.specs.Marks.{HasBit}
use Rattle.inference.proofs.Drawing.{each_more, each}
use Rattle.inference.proofs.Marking.{bit_left, bit_right}
use Rattle.inference.proofs.joins.above_of.Goals as goal

pub loop-above-preserved : goal.loop-above-preserved
loop-above-preserved c =
    let items = c.supers-above-items.result.now in
    let old = c.loop-above.mask in
    let new = c.bit-mask.result in
    each_more (HasBit old) (HasBit (bit_or old new)) items items c.loop-above.above-index _ refl c.loop-above-test.true c.loop-above.invariant
    (λ r has. bit_left old new r has) (bit_right old new _ c.bit-mask.ensures)

pub returns : goal.returns
returns c = λ r above.
    let forms = c.args.problem.now.forms in
    let items = c.supers-above-items.result.now in
    each (HasBit c.loop-above.mask) items items c.loop-above.above-index refl c.loop-above-test.false c.loop-above.invariant r
    ((c.supers-above-items.ensures.exact r).1 (c.requires.has, rw c.requires.closed.same ((suffice forms c.args.property r (c.args.property, r)).0.1 above)))
