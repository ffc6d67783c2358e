use Rattle.std.proofs.Common.{refl}
use Rattle.std.specs.Prelude.{bit_or}
use Rattle.normal_forms.proofs.Suffice.{suffice}
use Rattle.inference.specs.Marks.{HasEnd}
use Rattle.inference.proofs.Drawing.{each_more, each}
use Rattle.inference.proofs.Marking.{bit_left, bit_right}
use Rattle.inference.proofs.joins.ends_of.Goals as goal

pub loop-above-preserved : goal.loop-above-preserved
loop-above-preserved c =
    let forms = c.args.problem.now.forms in
    let items = c.supers-above-items.result.now in
    let old = c.loop-above.mask in
    let new = c.end-mask.result in
    each_more (HasEnd forms old) (HasEnd forms (bit_or old new)) items items c.loop-above.above-index _ refl c.loop-above-test.true c.loop-above.invariant
    (λ s has n under. bit_left old new s (has n under)) (λ n under. bit_right old new _ (c.end-mask.ensures n under))

pub returns : goal.returns
returns c = λ s above.
    let forms = c.args.problem.now.forms in
    let items = c.supers-above-items.result.now in
    each (HasEnd forms c.loop-above.mask) items items c.loop-above.above-index refl c.loop-above-test.false c.loop-above.invariant s
    ((c.supers-above-items.ensures.exact s).1 (c.requires.has, rw c.requires.closed.same ((suffice forms c.args.property s (c.args.property, s)).0.1 above)))
