use Rattle.indexes.specs.Keys.{by_filler}
use Rattle.inference.proofs.Drawing.{draws}
use Rattle.inference.proofs.Leading.{fillers_led, led_drawn}
use Rattle.inference.proofs.rules.Rules.draw_restrictions.Goals as goal

pub draw_all_led-requires-clause-say : goal.draw_all_led-requires-clause-say
draw_all_led-requires-clause-say c = c.led_by_filler-listed.ensures.say

pub draw_all_led-requires-clause-led : goal.draw_all_led-requires-clause-led
draw_all_led-requires-clause-led c = fillers_led c.args.self.now.problem.now.forms c.args.older.facts.now c.args.property c.args.filler c.led_by_filler-listed.result.now c.requires.filled c.led_by_filler-listed.ensures

pub returns : goal.returns
returns c = draws c.draw_all_led.ensures.grows
    (led_drawn c.args.self.now.problem.now c.args.older.facts.now c.draw_all_led.new.facts.facts c.led_by_filler-listed.result.now by_filler _ c.led_by_filler-listed.ensures c.in_ok-draw_all_led.ensures.drawn)
