use Rattle.std.proofs.Common.{◌≡◌, List, length, ap, arith}
use Rattle.std.proofs.lemmas.Grind.{common_steps}
use Rattle.work_list.specs.declared.item.Item.{Item}
use Rattle.work_list.specs.Bag.{often}
use Rattle.work_list.proofs.list.drain.Goals as goal

pub loop-item-preserved : goal.loop-item-preserved
loop-item-preserved g c =
    let step = c.in-Some.ensures in
    let kept = c.loop-item.invariant in
    (λ y. grind (arith, common_steps, step.each y, kept.0 y), grind (arith, common_steps, step.total, kept), grind (arith, kept, c.push.ensures.capacity))

-- none waits any more
pub returns-clause-all : goal.returns-clause-all
returns-clause-all g c =
    let kept = c.loop-item.invariant in
    let none = c.in_default.ensures.0 in
    record {
      each = λ x. (let gone : often (g.W.WorkList.pending c.loop-item.list) x ≡ 0 = ap (λ (l : List Item). often l x) none in omega (arith, kept.0 x, gone));
      total = omega (arith, kept.1, ap length none);
    }
