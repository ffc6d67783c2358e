use Rattle.std.proofs.Common.{bit_and}
use Rattle.std.specs.Simd.Lanes.{chunk, zip2}
use Rattle.number_sets.proofs.Fours.{lane, lanes, made_more}
use Rattle.number_sets.proofs.words.intersect_fours.Goals as goal

pub loop-a-preserved : goal.loop-a-preserved
loop-a-preserved c =
    let a = c.loop-a.a in
    let b = c.args.b.now in
    let i = c.loop-a.i in
    made_more bit_and c.args.a.now b a i (zip2 bit_and (chunk i 4 a) (chunk i 4 b)) c.loop-a.invariant c.requires c.loop-a-test.true
    (λ la lb. (lanes bit_and a b i la lb, λ j l. lane bit_and a b i j la lb l))
