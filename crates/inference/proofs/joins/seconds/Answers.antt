use Rattle.std.proofs.Common.{refl}
use Rattle.std.specs.Prelude.{bit_or}
use Rattle.inference.specs.Marks.{HasSecondAt}
use Rattle.inference.proofs.Drawing.{each_more, each}
use Rattle.inference.proofs.Marking.{bit_left, bit_right}
use Rattle.inference.proofs.joins.seconds.Goals as goal

pub loop-number-preserved : goal.loop-number-preserved
loop-number-preserved c =
    let forms = c.args.problem.now.forms in
    let numbers = c.args.numbers.now in
    let old = c.loop-number.mask in
    let new = c.second-mask.result in
    each_more (HasSecondAt forms old) (HasSecondAt forms (bit_or old new)) numbers numbers c.loop-number.number-index 0 refl c.loop-number-test.true c.loop-number.invariant
    (λ n has r s t at. bit_left old new s (has r s t at)) (λ r s t at. bit_right old new s (c.second-mask.ensures r s t at))

pub returns : goal.returns
returns c = each (HasSecondAt c.args.problem.now.forms c.loop-number.mask) c.args.numbers.now c.args.numbers.now c.loop-number.number-index refl c.loop-number-test.false c.loop-number.invariant
