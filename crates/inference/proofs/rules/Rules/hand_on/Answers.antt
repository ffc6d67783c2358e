use Rattle.std.proofs.Common.{subst, sym}
use Rattle.facts.specs.declared.contexts.Fact.{Fact}
use Rattle.inference.specs.Sameness.{IsHandedOn}
use Rattle.inference.proofs.Growth.{grows_same, grows_trans}
use Rattle.inference.proofs.Drawing.{draws}
use Rattle.inference.proofs.Handing.{at_still, class_handed, edge_handed, unlinked}
use Rattle.inference.proofs.rules.Rules.hand_on.Goals as goal

pub returns-then-not-has_links : goal.returns-then-not-has_links
returns-then-not-has_links c = draws (grows_same c.requires.derived) (unlinked c.args.self.now.problem.now c.args.hand.fact c.args.facts.now.facts (c.has_links.ensures.0 c.if-not-has_links.true))

pub returns-in_ok-hand_on_at-in-In : goal.returns-in_ok-hand_on_at-in-In
returns-in_ok-hand_on_at-in-In c =
    let k = c.args.self.now.problem.now in
    let new = c.hand_on_at.new.facts.facts in
    draws c.hand_on_at.ensures.grows
    (subst (λ (g : Fact). IsHandedOn k g new) (sym c.in-In.is) (class_handed k new c.in-In.field-0 c.in-In.x (rw c.in-In.is at c.in_ok-hand_on_at-in-In.ensures.drawn)))

pub returns-in_ok-hand_on_at-in-Edge-2 : goal.returns-in_ok-hand_on_at-in-Edge-2
returns-in_ok-hand_on_at-in-Edge-2 c =
    let k = c.args.self.now.problem.now in
    let arm = c.in-Edge in
    let new = c.hand_on_at-in-Edge-2.new.facts.facts in
    let s = c.hand_on_at-in-Edge-2.ensures.grows in
    draws (grows_trans c.hand_on_at-in-Edge.ensures.grows s)
    (subst (λ (g : Fact). IsHandedOn k g new) (sym arm.is) (edge_handed k new arm.x arm.field-1 arm.y
    (rw arm.is at (at_still s arm.x c.args.hand.fact c.in_ok-hand_on_at-in-Edge.ensures.drawn))
    (rw arm.is at c.in_ok-hand_on_at-in-Edge-2.ensures.drawn)))
