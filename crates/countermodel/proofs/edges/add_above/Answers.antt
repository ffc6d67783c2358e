use Rattle.std.proofs.Common.{refl, ◌∙◌, length, ◌<◌}
use Rattle.countermodel.specs.Ranges.{IsWithin}
use Rattle.countermodel.proofs.Above.{all_above, none_above, one_above}
use Rattle.countermodel.proofs.edges.add_above.Goals as goal

pub loop-above-init : goal.loop-above-init
loop-above-init c = (refl, none_above (λ p. IsWithin c.args.range.now p × (p.property.0 < length c.args.keys.now)) c.supers-above-items.result.now c.args.pair c.args.keys.now)

pub loop-above-preserved : goal.loop-above-preserved
loop-above-preserved c =
    let long = c.loop-above.invariant.0 in (
      c.add_with.ensures.long ∙ long,
      one_above (λ p. IsWithin c.args.range.now p × (p.property.0 < length c.args.keys.now)) c.supers-above-items.result.now c.args.pair c.loop-above.above-index _ c.args.keys.now c.loop-above.keys c.add_with.new.keys
          c.loop-above-test.true (rw long at c.in_ok-add_with.ensures.added) c.loop-above.invariant.1,
    )

pub returns-clause-added : goal.returns-clause-added
returns-clause-added c =
    all_above (λ p. IsWithin c.args.range.now p × (p.property.0 < length c.args.keys.now)) c.supers-above-items.result.now c.args.pair c.args.closure.now c.loop-above.above-index c.args.keys.now c.loop-above.keys
    c.loop-above-test.false c.supers-above-items.ensures.exact c.loop-above.invariant.1
