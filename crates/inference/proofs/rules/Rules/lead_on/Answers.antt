use Rattle.std.proofs.Common.{refl}
use Rattle.inference.specs.Premises.{edge_fact}
use Rattle.inference.proofs.Growth.{grows_same}
use Rattle.inference.proofs.Drawing.{draws}
use Rattle.inference.proofs.Edges.{property_there}
use Rattle.inference.proofs.Giving.{no_prefix}
use Rattle.inference.proofs.Meeting.{kind_of}
use Rattle.inference.proofs.Marking.{seconds_by}
use Rattle.inference.specs.Visits.{IsEdge}
use Rattle.inference.proofs.rules.Rules.lead_on.Goals as goal

pub begins_chain-requires-clause-has : goal.begins_chain-requires-clause-has
begins_chain-requires-clause-has c = property_there c.args.self.now.problem.now c.args.self.now.closed c.requires.derived c.args.hand.number (edge_fact c.args.hand) c.args.hand.property c.requires.hand refl

pub join_before-requires-clause-seconds : goal.join_before-requires-clause-seconds
join_before-requires-clause-seconds c =
    let forms = c.args.self.now.problem.now.forms in
    seconds_by forms c.seconds-seconds.result c.args.hand.property (edge_fact c.args.hand) (c.seconds-seconds.ensures forms c.args.self.now.joined) refl

pub returns-else-begins_chain : goal.returns-else-begins_chain
returns-else-begins_chain c = draws (grows_same c.requires.derived) (λ n there g at.
    no_prefix c.args.self.now.problem.now c.args.hand.property (edge_fact c.args.hand) g c.args.facts.now refl (c.begins_chain.ensures c.if-begins_chain.false)
    (kind_of IsEdge c.args.facts.now.facts c.args.numbers.now c.requires.numbers n there g at))
