use Rattle.std.proofs.Common.{refl}
use Rattle.normal_forms.specs.declared.forms.PropId2.{PropId2}
use Rattle.normal_forms.proofs.Suffice.{suffice}
use Rattle.indexes.specs.Keys.{by_end, property_key}
use Rattle.inference.specs.Visits.{NoneUnder}
use Rattle.inference.proofs.Drawing.{each_more, each}
use Rattle.inference.proofs.second_premises.ends_chain.Goals as goal

pub loop-above-preserved : goal.loop-above-preserved
loop-above-preserved c =
    let None : PropId2 → Type 0 = λ s. NoneUnder by_end c.args.problem.now.forms (property_key s) in
    let items = c.supers-above-items.result.now in
    each_more None None items items c.loop-above.above-index _ refl c.loop-above-test.true c.loop-above.invariant (λ s none. none)
    (λ n under. c.has_any.ensures c.if-has_any.false n ((c.chains_to.ensures n).1 under))

pub returns : goal.returns
returns c = λ no s above.
    let forms = c.args.problem.now.forms in
    let None : PropId2 → Type 0 = λ s. NoneUnder by_end forms (property_key s) in
    let items = c.supers-above-items.result.now in
    each None items items c.loop-above.above-index refl c.loop-above-test.false c.loop-above.invariant s
    ((c.supers-above-items.ensures.exact s).1 (c.requires.has, rw c.requires.closed.same ((suffice forms c.args.property s (c.args.property, s)).0.1 above)))
