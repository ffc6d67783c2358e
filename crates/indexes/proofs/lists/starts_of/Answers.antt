use Rattle.std.proofs.Common.{◌≡◌, length, arith}
use Rattle.indexes.proofs.Counting.{no_starts, starts_more, end_is_few, starts_all}
use Rattle.indexes.proofs.lists.starts_of.Goals as goal

pub loop-count-init : goal.loop-count-init
loop-count-init c = no_starts c.args.counts.now c.in_ok-starts.starts.items c.in_ok-starts.ensures.items

pub overflow_add-end : goal.overflow_add-end
overflow_add-end c = omega (arith, end_is_few c.args.counts.now c.loop-count.starts.items c.loop-count.end c.loop-count.count-index c.loop-count.invariant 4294967295 c.requires c.loop-count-test.true)

pub loop-count-preserved : goal.loop-count-preserved
loop-count-preserved c = rw (c.in_ok-push.ensures.items) (starts_more c.args.counts.now c.loop-count.starts.items c.loop-count.end c.loop-count.count-index c.loop-count.invariant)

pub returns : goal.returns
returns c =
    let all : c.loop-count.count-index ≡ length c.args.counts.now = omega (arith, c.loop-count-test.false, c.loop-count.auto.count-index-end) in
    rw (c.in_ok-push-2.ensures.items) (starts_all c.args.counts.now c.loop-count.starts.items c.loop-count.end c.loop-count.count-index c.loop-count.invariant all)
