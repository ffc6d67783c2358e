use Rattle.inference.proofs.Growth.{grows_trans}
use Rattle.inference.proofs.Drawing.{draws}
use Rattle.inference.proofs.Handing.{by_still, handed_at}
use Rattle.inference.proofs.rules.Rules.hand_on_at.Goals as goal

pub returns-in_ok-hand_on_by_all-2 : goal.returns-in_ok-hand_on_by_all-2
returns-in_ok-hand_on_by_all-2 c =
    let s = c.hand_on_by_all-in-Individual.ensures.grows in
    draws (grows_trans c.hand_on_by_all.ensures.grows s)
    (handed_at c.args.self.now.problem.now c.hand_on_by_all-in-Individual.new.facts.facts c.args.hand.fact c.args.context c.in-Individual.individual c.in-Individual.is
    (λ n under. by_still s c.args.hand.fact n (c.in_ok-hand_on_by_all.ensures.drawn n ((c.linked_first.ensures n).1 under)))
    (λ n under. c.in_ok-hand_on_by_all-2.ensures.drawn n ((c.linked_second.ensures n).1 under)))
