use Rattle.indexes.specs.Keys.{by_alone}
use Rattle.inference.proofs.Drawing.{draws}
use Rattle.inference.proofs.Leading.{alone_led, led_drawn, needs_alone}
use Rattle.inference.proofs.rules.Rules.draw_others.Goals as goal

pub draw_all_led-requires-clause-led : goal.draw_all_led-requires-clause-led
draw_all_led-requires-clause-led c =
    alone_led c.args.self.now.problem.now.forms c.in-Some.class c.in-Some.ensures.0 c.args.older.facts.now c.led_alone.result.now c.in-Some.ensures.1 c.led_alone.ensures

pub returns-in_ok-draw_all_led-in-Some : goal.returns-in_ok-draw_all_led-in-Some
returns-in_ok-draw_all_led-in-Some c =
    let k = c.args.self.now.problem.now in
    let older = c.args.older.facts.now in
    draws c.draw_all_led.ensures.grows (λ n form f at none unfilled gives.
    led_drawn k older c.draw_all_led.new.facts.facts c.led_alone.result.now by_alone _ c.led_alone.ensures c.in_ok-draw_all_led-in-Some.ensures.drawn n
    (form, at, needs_alone k form c.in-Some.class c.in-Some.ensures.0 older f c.in-Some.ensures.1 gives) form at f gives)

pub returns-in_ok-draw_listed-in-None : goal.returns-in_ok-draw_listed-in-None
returns-in_ok-draw_listed-in-None c = draws c.draw_listed.ensures.grows
    (λ n form f at none unfilled gives. c.in_ok-draw_listed-in-None.ensures.drawn n (c.visited.ensures n form f at none unfilled gives) form at f gives)
