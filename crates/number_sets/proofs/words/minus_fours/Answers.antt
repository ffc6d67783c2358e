use Rattle.std.proofs.Common.{bit_and, bit_xor}
use Rattle.std.specs.Simd.Lanes.{chunk, zip2}
use Rattle.number_sets.specs.Words.{without_bits}
use Rattle.number_sets.proofs.Fours.{left_lane, left_lanes, made_more}
use Rattle.number_sets.proofs.words.minus_fours.Goals as goal

pub loop-a-preserved : goal.loop-a-preserved
loop-a-preserved c =
    let a = c.loop-a.a in
    let b = c.args.b.now in
    let i = c.loop-a.i in
    made_more without_bits c.args.a.now b a i (zip2 bit_xor (chunk i 4 a) (zip2 bit_and (chunk i 4 a) (chunk i 4 b))) c.loop-a.invariant c.requires c.loop-a-test.true
    (λ la lb. (left_lanes a b i la lb, λ j l. left_lane a b i j la lb l))
