use Rattle.std.proofs.Common.{[], ◌∷◌}
use Rattle.inference.proofs.Growth.{grows_trans}
use Rattle.inference.proofs.Drawing.{concluded_still, drawn_by_two, draws}
use Rattle.inference.proofs.rules.Rules.draw_two.Goals as goal

pub returns : goal.returns
returns c =
    let f = c.args.first.fact in
    let g = c.args.second.fact in
    draws (grows_trans c.draw.ensures.grows c.draw_disjoint.ensures.grows)
    (drawn_by_two c.args.self.now.problem.now f g c.draw_disjoint.new.facts.facts (concluded_still c.draw_disjoint.ensures.grows (f ∷ g ∷ []) c.in_ok-draw.ensures.drawn) c.in_ok-draw_disjoint.ensures.drawn)
