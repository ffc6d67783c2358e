use Rattle.std.proofs.Common.{[], refl}
use Rattle.inference.proofs.Differing.{drawn_here, gives_difference}
use Rattle.inference.proofs.Drawing.{draws}
use Rattle.inference.proofs.rules.Rules.draw_difference.Goals as goal

pub add-requires-clause-birth : goal.add-requires-clause-birth
add-requires-clause-birth c = (
  [],
  refl,
  gives_difference c.args.self.now.problem.now c.args.number c.args.list.now c.args.place _ c.requires.list c.requires.place (c.has_same_later.ensures.yes c.if-has_same_later.true),
)

pub returns-in_ok-add : goal.returns-in_ok-add
returns-in_ok-add c =
    draws c.add.ensures.grows (drawn_here c.args.self.now.problem.now.forms c.args.list.now c.add.new.facts.facts c.args.place _ c.requires.place c.in_ok-add.ensures.drawn)
