use Rattle.std.proofs.Common.{refl}
use Rattle.normal_forms.proofs.Suffice.{suffice}
use Rattle.inference.specs.Visits.{NoneNeeds}
use Rattle.inference.proofs.Drawing.{each_more, each}
use Rattle.inference.proofs.Sparing.{none_needs}
use Rattle.inference.proofs.spared.is_whole_spared.Goals as goal

pub loop-above-preserved : goal.loop-above-preserved
loop-above-preserved c =
    let forms = c.args.problem.now.forms in
    let None = NoneNeeds forms c.args.older.0 c.args.older.1 in
    let items = c.supers-above-items.result.now in
    each_more None None items items c.loop-above.above-index _ refl c.loop-above-test.true c.loop-above.invariant (λ s none. none)
    (none_needs forms c.args.older.0 c.args.older.1 _ c.chains_to.result.now c.chains_to.ensures (c.are_spared_by.ensures c.if-not-are_spared_by.false))

pub returns : goal.returns
returns c = λ _ s above.
    let forms = c.args.problem.now.forms in
    let items = c.supers-above-items.result.now in
    each (NoneNeeds forms c.args.older.0 c.args.older.1) items items c.loop-above.above-index refl c.loop-above-test.false c.loop-above.invariant s
    ((c.supers-above-items.ensures.exact s).1 (c.requires.has, rw c.requires.closed.same ((suffice forms c.args.whole s (c.args.whole, s)).0.1 above)))
