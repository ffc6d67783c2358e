use Rattle.std.proofs.Common.{refl}
use Rattle.indexes.specs.Keys.{property_key, by_chain}
use Rattle.normal_forms.proofs.Suffice.{suffice}
use Rattle.inference.specs.Visits.{NoneUnder}
use Rattle.inference.proofs.Drawing.{each_more, each}
use Rattle.inference.proofs.visits.begins_chain.Goals as goal

pub loop-above-preserved : goal.loop-above-preserved
loop-above-preserved c =
    let forms = c.args.problem.now.forms in
    let items = c.supers-above-items.result.now in
    each_more (λ r. NoneUnder by_chain forms (property_key r)) (λ r. NoneUnder by_chain forms (property_key r))
    items items c.loop-above.above-index _ refl c.loop-above-test.true c.loop-above.invariant (λ r none. none)
    (λ n under. c.has_any.ensures c.if-has_any.false n ((c.chains_from.ensures n).1 under))

pub returns : goal.returns
returns c = λ no r above.
    let forms = c.args.problem.now.forms in
    let items = c.supers-above-items.result.now in
    each (λ r. NoneUnder by_chain forms (property_key r)) items items c.loop-above.above-index refl c.loop-above-test.false c.loop-above.invariant r
    ((c.supers-above-items.ensures.exact r).1 (c.requires.has, rw c.requires.closed.same ((suffice forms c.args.property r (c.args.property, r)).0.1 above)))
