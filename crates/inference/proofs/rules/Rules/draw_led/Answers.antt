use Rattle.std.proofs.Common.{Contains, subst}
use Rattle.facts.specs.Closure.{by_form, Concludes}
use Rattle.inference.proofs.Lists.{one_value}
use Rattle.inference.proofs.Drawing.{drawn_here, draws}
use Rattle.inference.proofs.rules.Rules.draw_led.Goals as goal

pub add-requires-clause-birth : goal.add-requires-clause-birth
add-requires-clause-birth c =
    let k = c.args.self.now.problem.now in
    let form = c.requires.led.0 in
    let says = c.requires.says form c.requires.led.1 in
    (c.args.older.facts.now, c.requires.older, rw (c.condition_of_led-condition.ensures form says c.requires.led.2) (by_form c.args.listed.number form c.requires.led.1 ((c.from_led.ensures k form c.in-Some.fact c.args.self.now.closed says c.requires.led.2).0 c.in-Some.is)))

pub returns-in_ok-add : goal.returns-in_ok-add
returns-in_ok-add c =
    let k = c.args.self.now.problem.now in
    let form = c.requires.led.0 in
    let new = c.add.new.facts.facts in
    draws c.add.ensures.grows (drawn_here (λ form. Concludes k form c.args.older.facts.now) k.forms c.args.listed.number form new c.requires.led.1
    (λ f gives. subst (Contains new) (one_value c.from_led.result c.in-Some.fact f c.in-Some.is ((c.from_led.ensures k form f c.args.self.now.closed (c.requires.says form c.requires.led.1) c.requires.led.2).1 gives)) c.in_ok-add.ensures.drawn))
