use Rattle.inference.proofs.Drawing.{draws}
use Rattle.inference.proofs.Planning.{plan_drawn}
use Rattle.inference.proofs.rules.Rules.draw_chains.Goals as goal

pub returns-in_ok-draw_plan-in-Some : goal.returns-in_ok-draw_plan-in-Some
returns-in_ok-draw_plan-in-Some c =
    let k = c.args.self.now.problem.now in
    draws c.draw_plan.ensures.grows (plan_drawn k c.args.older.facts.now c.draw_plan.new.facts.facts c.args.first _ c.in-Some.ensures c.in_ok-draw_plan-in-Some.ensures.drawn)
