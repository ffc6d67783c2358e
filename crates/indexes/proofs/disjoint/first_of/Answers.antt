use Rattle.std.proofs.Common.{◌-◌, arith}
use Rattle.std.proofs.lemmas.Option.{slice_get-get_or}
use Rattle.indexes.proofs.Sides.{at_end_before, one_more}
use Rattle.indexes.proofs.disjoint.first_of.Goals as goal

pub loop-first-preserved : goal.loop-first-preserved
loop-first-preserved c =
    let operands = c.args.operands.now in
    let first = c.loop-first.first in
    let been = c.loop-first.invariant in
    record {
      below = omega (arith, been.below);
      each = one_more operands c.requires.lists c.args.place c.requires.there first been.below been.each _ c.loop-first-test.true (slice_get-get_or operands (first - 1) _ (omega (arith, been.below, c.requires.there))) c.if-operands-first-gt0.true;
    }

pub returns-else-operands-first-gt0 : goal.returns-else-operands-first-gt0
returns-else-operands-first-gt0 c =
    let operands = c.args.operands.now in
    let first = c.loop-first.first in
    let been = c.loop-first.invariant in
    at_end_before operands c.requires.lists c.args.place c.requires.there first been.below been.each _ (slice_get-get_or operands (first - 1) _ (omega (arith, been.below, c.requires.there))) c.if-operands-first-gt0.false
