use Rattle.inference.proofs.rules.Rules.planned.Goals as goal

pub returns : goal.returns
returns c = c.in_ok-plan.ensures c.args.self.now.problem.now.forms c.args.self.now.joined
