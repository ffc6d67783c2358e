use Rattle.std.proofs.Common.{[], ◌∷◌, ◌++◌, Some, sym, ap, ◌∙◌}
use Rattle.std.proofs.lemmas.Bool.{iff_false}
use Rattle.facts.proofs.Tabling.{marked_other, marked_push}
use Rattle.facts.proofs.marks.Marks.add.Goals as goal

pub returns-then-not-owns : goal.returns-then-not-owns
returns-then-not-owns c table marked last =
    marked_other table c.args.self.now c.args.fact (λ is. iff_false c.owns.ensures c.if-not-owns.true (is ∙ ap Some (sym c.home_of.ensures))) marked

pub returns : goal.returns
returns c table marked last =
    marked_push table c.args.self.now c.mark.new.self c.args.fact c.args.place last c.mark.ensures.owner c.in-Ok.ensures.facts c.in-Ok.ensures.places marked

pub returns-in_default : goal.returns-in_default
returns-in_default c table marked last = c.clear.ensures.marked (table ++ c.args.fact ∷ [])
