use Rattle.std.proofs.Common.{Contains, Some, sym, ap, ◌∙◌, subst}
use Rattle.facts.proofs.table.FactTable.find.Goals as goal

pub returns-then-owns-clause-none : goal.returns-then-owns-clause-none
returns-then-owns-clause-none c none member =
    c.find.ensures.none none c.self.inside.facts.facts c.self.invariant.marked (c.owns.ensures.0 c.if-owns.true ∙ ap Some c.home_of-home.ensures)
    (subst (λ facts. Contains facts c.args.fact) (sym c.self.view_is) member)
