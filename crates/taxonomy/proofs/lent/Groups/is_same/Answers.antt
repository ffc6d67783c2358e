use Rattle.std.proofs.Common.{sym, ◌∙◌}
use Rattle.taxonomy.proofs.Told.{told_same}
use Rattle.taxonomy.proofs.lent.Groups.is_same.Goals as goal

pub returns : goal.returns
returns c =
    rw (← c.self.view_is)
    (c.is_same.ensures ∙ sym (told_same c.self.inside.classes.now c.self.invariant.superclasses.sets c.args.c c.args.d))
