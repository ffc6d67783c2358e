use Rattle.std.proofs.Common.{sym, ap, subst, ◌∙◌}
use Rattle.taxonomy.specs.HeldRelations.{held_rows, IsHeld}
use Rattle.taxonomy.specs.Relation.{lies_below}
use Rattle.taxonomy.specs.Superclasses.{AreSets}
use Rattle.taxonomy.proofs.Told.{told}
use Rattle.taxonomy.proofs.relation.Relation.lies_below.Goals as goal

pub returns-in-Lists : goal.returns-in-Lists
returns-in-Lists c =
    let sets : AreSets c.in-Lists.lists = subst IsHeld c.in-Lists.is c.self.invariant in
    c.has.ensures
    ∙ sym (ap (λ r. lies_below r c.args.c c.args.d) (sym c.self.view_is ∙ ap held_rows c.in-Lists.is) ∙ told c.in-Lists.lists sets.within c.args.c c.args.d)
