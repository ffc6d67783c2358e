use Rattle.std.proofs.Common.{◌≡◌, length, sym, arith}
use Rattle.indexes.proofs.Counting.{form_counted}
use Rattle.indexes.proofs.form_counts.counted.Goals as goal

pub loop-number-init : goal.loop-number-init
loop-number-init c = c.nothing_counted-counts.ensures c.args.forms.now

pub loop-number-preserved : goal.loop-number-preserved
loop-number-preserved c = form_counted c.args.forms.now c.loop-number.number c.at.result c.at.ensures c.loop-number.counts c.count.new.counts c.loop-number.invariant c.in_ok-count.ensures

pub returns : goal.returns
returns c =
    let all : c.loop-number.number ≡ length c.args.forms.now = omega (arith, c.loop-number-test.false, c.loop-number.auto.number-end, c.len-number-end.ensures) in
    rw (sym all) c.loop-number.invariant
