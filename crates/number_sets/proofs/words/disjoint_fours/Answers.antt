use Rattle.std.proofs.Common.{◌≡◌, ℕ, ◌+◌, ◌≤◌, bit_and, get_or, length, sym, ◌∙◌, arith}
use Rattle.std.specs.Simd.Lanes.{chunk, zip2}
use Rattle.number_sets.proofs.Fours.{each_zero, lane, lanes}
use Rattle.number_sets.proofs.words.disjoint_fours.Goals as goal

pub loop-i-preserved : goal.loop-i-preserved
loop-i-preserved c =
    let a = c.args.a.now in
    let b = c.args.b.now in
    let i = c.loop-i.i in
    let la : i + 4 ≤ length a = omega (arith, c.loop-i-test.true, c.loop-i.invariant.within) in
    let lb : i + 4 ≤ length b = omega (arith, c.requires) in
    let none = c.are_disjoint_four.ensures.0 c.if-are_disjoint_four.true in
    record {
      within = la;
      before = each_zero (λ (k : ℕ). bit_and (get_or a k 0) (get_or b k 0) ≡ 0) i (zip2 bit_and (chunk i 4 a) (chunk i 4 b)) (lanes bit_and a b i la lb) none (λ j l e. sym (lane bit_and a b i j la lb l) ∙ e) c.loop-i.invariant.before;
    }
