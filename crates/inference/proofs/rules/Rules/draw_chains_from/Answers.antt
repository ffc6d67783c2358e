use Rattle.inference.proofs.Drawing.{draws}
use Rattle.inference.proofs.rules.Rules.draw_chains_from.Goals as goal

pub returns : goal.returns
returns c = draws c.draw_listed.ensures.grows (λ n under. c.in_ok-draw_listed.ensures.drawn n ((c.chains_from-listed.ensures n).1 under))
