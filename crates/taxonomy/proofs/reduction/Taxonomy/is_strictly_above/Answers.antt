use Rattle.std.proofs.Common.{sym, ap, ◌∙◌}
use Rattle.taxonomy.specs.Relation.{lies_below}
use Rattle.taxonomy.specs.Texts.{is_strictly_above}
use Rattle.taxonomy.proofs.Told.{told_strictly}
use Rattle.taxonomy.proofs.reduction.Taxonomy.is_strictly_above.Goals as goal

pub returns : goal.returns
returns c =
    c.is_strictly_above.ensures
    ∙ sym (ap (λ r. is_strictly_above (lies_below r) c.args.g c.args.h) (sym c.self.view_is) ∙ told_strictly c.self.inside.above c.self.invariant.sets c.args.g c.args.h)
