use Rattle.inference.proofs.Drawing.{draws}
use Rattle.inference.proofs.rules.Rules.fill_by.Goals as goal

pub returns : goal.returns
returns c = draws c.fill_each.ensures.grows (λ n under. c.in_ok-fill_each.ensures.drawn n ((c.restrictions-numbers.ensures c.args.self.now.problem.now.forms c.args.self.now.joined n).1 under))
