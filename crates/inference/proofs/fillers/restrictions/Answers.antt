use Rattle.std.proofs.Common.{refl}
use Rattle.std.specs.Prelude.{bit_or}
use Rattle.normal_forms.specs.declared.forms.PropId2.TheVariants.{Property}
use Rattle.inference.specs.Marks.{HasFilledAt}
use Rattle.inference.proofs.Drawing.{each_more, each}
use Rattle.inference.proofs.Marking.{bit_left, bit_right}
use Rattle.inference.proofs.fillers.restrictions.Goals as goal

pub loop-number-preserved : goal.loop-number-preserved
loop-number-preserved c =
    let forms = c.args.problem.now.forms in
    let numbers = c.args.numbers.now in
    let old = c.loop-number.mask in
    let new = c.restriction-mask.result in
    each_more (HasFilledAt forms old) (HasFilledAt forms (bit_or old new)) numbers numbers c.loop-number.number-index 0 refl c.loop-number-test.true c.loop-number.invariant
    (λ n has r a b at. bit_left old new (Property r) (has r a b at)) (λ r a b at. bit_right old new (Property r) (c.restriction-mask.ensures r a b at))

pub returns : goal.returns
returns c = each (HasFilledAt c.args.problem.now.forms c.loop-number.mask) c.args.numbers.now c.args.numbers.now c.loop-number.number-index refl c.loop-number-test.false c.loop-number.invariant
