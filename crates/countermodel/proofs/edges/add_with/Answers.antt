use Rattle.countermodel.proofs.Above.{put}
use Rattle.countermodel.proofs.edges.add_with.Goals as goal

pub returns-in_ok-push-clause-added : goal.returns-in_ok-push-clause-added
returns-in_ok-push-clause-added c =
    put c.args.range.now c.args.property c.in-Property.property c.args.pair c.key_of.result c.args.keys.now c.index.result c.push.new.self
    c.in-Property.is c.key_of.ensures.source c.key_of.ensures.target c.index.ensures c.in_ok-push.ensures.ok (c.contains.ensures.0 c.if-contains.true)
