use Rattle.std.proofs.Common.{refl}
use Rattle.indexes.specs.declared.listed_forms.ListedForm.{ListedForm}
use Rattle.inference.specs.Completeness.{IsDrawnFrom}
use Rattle.inference.proofs.Growth.{grows_trans}
use Rattle.inference.proofs.Drawing.{at_still, draws, each_more, each, drawn_at_still, member_at}
use Rattle.inference.proofs.rules.Rules.draw_all_led.Goals as goal

pub draw_led-requires-clause-older : goal.draw_led-requires-clause-older
draw_led-requires-clause-older c = at_still _ _ c.loop-form.invariant.grows.facts c.args.older.numbers.now c.args.older.facts.now c.requires.older

pub draw_led-requires-clause-says : goal.draw_led-requires-clause-says
draw_led-requires-clause-says c = c.requires.say _ (member_at c.args.listed.now c.args.listed.now c.loop-form.form-index _ refl c.loop-form-test.true)

pub draw_led-requires-clause-led : goal.draw_led-requires-clause-led
draw_led-requires-clause-led c = c.requires.led _ (member_at c.args.listed.now c.args.listed.now c.loop-form.form-index _ refl c.loop-form-test.true)

pub loop-form-preserved : goal.loop-form-preserved
loop-form-preserved c =
    let k = c.args.self.now.problem.now in
    let older = c.args.older.facts.now in
    let s = c.draw_led.ensures.grows in
    record {
      grows = grows_trans c.loop-form.invariant.grows s;
      drawn = each_more (λ (l : ListedForm). IsDrawnFrom k older c.loop-form.facts.facts l.number) (λ (l : ListedForm). IsDrawnFrom k older c.draw_led.new.facts.facts l.number)
          c.args.listed.now c.args.listed.now c.loop-form.form-index _ refl c.loop-form-test.true c.loop-form.invariant.drawn (λ l. drawn_at_still s _ _ l.number) c.in_ok-draw_led.ensures.drawn;
    }

pub returns : goal.returns
returns c =
    draws c.loop-form.invariant.grows (each (λ (l : ListedForm). IsDrawnFrom c.args.self.now.problem.now c.args.older.facts.now c.loop-form.facts.facts l.number) c.args.listed.now c.args.listed.now c.loop-form.form-index refl c.loop-form-test.false c.loop-form.invariant.drawn)
