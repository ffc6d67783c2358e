use Rattle.std.proofs.Common.{◌<◌, arith, refl}
use Rattle.inference.proofs.Drawing.{each_more, each}
use Rattle.saturate.proofs.new_seconds.reach.Goals as goal

pub loop-number-preserved : goal.loop-number-preserved
loop-number-preserved c =
    let numbers = c.args.numbers.now in
    each_more (λ n. n < c.args.from) (λ n. n < c.args.from) numbers numbers c.loop-number.number-index 0 refl c.loop-number-test.true c.loop-number.invariant (λ n low. low) (omega arith)

pub returns : goal.returns
returns c = λ _.
    let numbers = c.args.numbers.now in
    each (λ n. n < c.args.from) numbers numbers c.loop-number.number-index refl c.loop-number-test.false c.loop-number.invariant
