use Rattle.std.proofs.Common.{bit_or}
use Rattle.std.specs.Simd.Lanes.{chunk, zip2}
use Rattle.number_sets.proofs.Fours.{lane, lanes, made_more}
use Rattle.number_sets.proofs.words.union_fours.Goals as goal

pub loop-a-preserved : goal.loop-a-preserved
loop-a-preserved c =
    let a = c.loop-a.a in
    let b = c.args.b.now in
    let i = c.loop-a.i in
    made_more bit_or c.args.a.now b a i (zip2 bit_or (chunk i 4 a) (chunk i 4 b)) c.loop-a.invariant c.requires c.loop-a-test.true
    (λ la lb. (lanes bit_or a b i la lb, λ j l. lane bit_or a b i j la lb l))
