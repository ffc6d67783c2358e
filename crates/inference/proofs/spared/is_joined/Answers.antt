use Rattle.inference.proofs.Sparing.{joined_by}
use Rattle.inference.proofs.spared.is_joined.Goals as goal

pub returns-then-has_link : goal.returns-then-has_link
returns-then-has_link c = λ _ forms closed.
    joined_by forms c.args.closure.now c.args.first c.args.second c.args.whole c.supers-above-items.result.now c.loop-above.above-index _ closed c.supers-above-items.ensures.exact c.loop-above-test.true
    c.chains_from.result.now c.chains_from.ensures.exact (c.has_link.ensures c.if-has_link.true forms closed)
