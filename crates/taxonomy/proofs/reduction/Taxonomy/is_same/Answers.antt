use Rattle.std.proofs.Common.{sym, ap, ◌∙◌}
use Rattle.taxonomy.specs.Relation.{lies_below}
use Rattle.taxonomy.specs.Texts.{is_same}
use Rattle.taxonomy.proofs.Told.{told_same}
use Rattle.taxonomy.proofs.reduction.Taxonomy.is_same.Goals as goal

pub returns : goal.returns
returns c =
    c.is_same.ensures
    ∙ sym (ap (λ r. is_same (lies_below r) c.args.c c.args.d) (sym c.self.view_is) ∙ told_same c.self.inside.above c.self.invariant.sets c.args.c c.args.d)
