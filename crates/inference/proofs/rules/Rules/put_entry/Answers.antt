use Rattle.facts.specs.Closure.{in_thing}
use Rattle.inference.proofs.Growth.{grows_trans, there_still}
use Rattle.inference.proofs.Drawing.{context_still, draws}
use Rattle.inference.proofs.rules.Rules.put_entry.Goals as goal

pub add-requires-clause-birth : goal.add-requires-clause-birth
add-requires-clause-birth c = (c.requires.context.0, c.requires.context.1, in_thing c.requires.context.2)

pub enter_itself-requires-clause-context : goal.enter_itself-requires-clause-context
enter_itself-requires-clause-context c = context_still c.add.ensures.grows c.args.numbers.now c.args.context c.requires.context

pub draw_missing_loops-requires-clause-context : goal.draw_missing_loops-requires-clause-context
draw_missing_loops-requires-clause-context c = context_still (grows_trans c.add.ensures.grows c.enter_itself.ensures.grows) c.args.numbers.now c.args.context c.requires.context

pub returns : goal.returns
returns c =
    let s = grows_trans c.enter_itself.ensures.grows c.draw_missing_loops.ensures.grows in
    draws (grows_trans c.add.ensures.grows s) (record {
      top = there_still s _ c.in_ok-add.ensures.drawn;
      itself = λ e is. there_still c.draw_missing_loops.ensures.grows _ (c.in_ok-enter_itself.ensures.drawn e is);
      loops = c.in_ok-draw_missing_loops.ensures.drawn (there_still c.enter_itself.ensures.grows _ c.in_ok-add.ensures.drawn);
    })
