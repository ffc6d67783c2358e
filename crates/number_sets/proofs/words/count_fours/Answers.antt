use Rattle.std.proofs.Common.{◌≡◌, ◌+◌, ◌≤◌, take, ap, ◌∙◌, arith, take-add}
use Rattle.std.specs.Simd.Lanes.{chunk}
use Rattle.number_sets.proofs.Counts.{ones_of, ones_append, ones_take}
use Rattle.number_sets.proofs.words.count_fours.Goals as goal

pub overflow_add-count : goal.overflow_add-count
overflow_add-count c =
    let words = c.args.words.now in
    let i = c.loop-i.i in
    let parts : ones_of (take (i + 4) words) ≡ ones_of (take i words) + ones_of (chunk i 4 words) = ap ones_of (take-add i 4 words) ∙ ones_append (take i words) (chunk i 4 words) in
    record {
      fits = omega (arith, parts, ones_take (i + 4) words, c.count_four.ensures, c.loop-i.invariant.sum, c.requires.fits);
    }

pub loop-i-preserved : goal.loop-i-preserved
loop-i-preserved c =
    let words = c.args.words.now in
    let i = c.loop-i.i in
    let four : i + 4 ≤ c.args.to = omega (arith, c.loop-i-test.true, c.loop-i.invariant.fours, c.requires.fours) in
    let parts : ones_of (take (i + 4) words) ≡ ones_of (take i words) + ones_of (chunk i 4 words) = ap ones_of (take-add i 4 words) ∙ ones_append (take i words) (chunk i 4 words) in
    record {
      sum = omega (arith, parts, c.count_four.ensures, c.loop-i.invariant.sum);
      fours = omega (arith, c.loop-i.invariant.fours);
      within = four;
    }
