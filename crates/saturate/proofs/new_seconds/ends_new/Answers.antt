use Rattle.std.proofs.Common.{◌<◌, ℕ, refl}
use Rattle.normal_forms.specs.declared.forms.PropId2.{PropId2}
use Rattle.normal_forms.proofs.Suffice.{suffice}
use Rattle.indexes.specs.FormsUnderKeys.{IsUnder}
use Rattle.indexes.specs.Keys.{by_end, property_key}
use Rattle.inference.proofs.Drawing.{each_more, each}
use Rattle.saturate.proofs.NewSeconds.{none_ends}
use Rattle.saturate.proofs.new_seconds.ends_new.Goals as goal

pub loop-above-preserved : goal.loop-above-preserved
loop-above-preserved c =
    let Earlier : PropId2 → Type 0 = λ s. (n : ℕ) → IsUnder by_end c.args.problem.now.forms (property_key s) n → n < c.args.from in
    let items = c.supers-above-items.result.now in
    each_more Earlier Earlier items items c.loop-above.above-index _ refl c.loop-above-test.true c.loop-above.invariant (λ s earlier. earlier)
    (λ n under. c.reach.ensures c.if-reach.false n ((c.chains_to.ensures n).1 under))

pub returns : goal.returns
returns c = λ no.
    let forms = c.args.problem.now.forms in
    let Earlier : PropId2 → Type 0 = λ s. (n : ℕ) → IsUnder by_end forms (property_key s) n → n < c.args.from in
    let items = c.supers-above-items.result.now in
    none_ends forms c.args.from c.args.property (λ s above.
    each Earlier items items c.loop-above.above-index refl c.loop-above-test.false c.loop-above.invariant s
    ((c.supers-above-items.ensures.exact s).1 (c.requires.has, rw c.requires.closed.same ((suffice forms c.args.property s (c.args.property, s)).0.1 above))))
