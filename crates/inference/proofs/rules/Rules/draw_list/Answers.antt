use Rattle.inference.proofs.Growth.{grows_same}
use Rattle.inference.proofs.Differing.{list_drawn}
use Rattle.inference.proofs.Drawing.{draws}
use Rattle.inference.proofs.rules.Rules.draw_list.Goals as goal

pub returns-then-ascends : goal.returns-then-ascends
returns-then-ascends c =
    draws (grows_same c.requires.derived)
    (list_drawn c.args.self.now.problem.now c.args.number c.args.list.now c.args.facts.now.facts c.requires.list (λ place w a _. absurd (c.ascends.ensures c.if-ascends.true place w)))

pub returns : goal.returns
returns c = draws c.draw_places.ensures.grows (list_drawn c.args.self.now.problem.now c.args.number c.args.list.now c.draw_places.new.facts.facts c.requires.list c.in_ok-draw_places.ensures.drawn)
