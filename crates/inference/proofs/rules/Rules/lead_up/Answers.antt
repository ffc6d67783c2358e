use Rattle.std.proofs.Common.{refl}
use Rattle.inference.specs.Premises.{edge_fact}
use Rattle.inference.proofs.Growth.{grows_same}
use Rattle.inference.proofs.Drawing.{draws}
use Rattle.inference.proofs.Marking.{ends_by}
use Rattle.inference.proofs.Redundancy.{all_redundant}
use Rattle.inference.proofs.rules.Rules.lead_up.Goals as goal

pub join_behind-requires-clause-ends : goal.join_behind-requires-clause-ends
join_behind-requires-clause-ends c =
    let forms = c.args.self.now.problem.now.forms in
    ends_by forms c.ends-ends.result c.args.hand.property (edge_fact c.args.hand) (c.ends-ends.ensures forms c.args.self.now.joined) refl

pub returns-else-is_second : goal.returns-else-is_second
returns-else-is_second c = draws (grows_same c.requires.derived) (λ n there g at. all_redundant c.args.self.now.problem.now g (edge_fact c.args.hand) c.args.facts.now (c.requires.second c.if-is_second.false))
