use Rattle.std.proofs.Common.{length, sym, ap, ◌∙◌}
use Rattle.taxonomy.proofs.Filled.{length-filled}
use Rattle.taxonomy.proofs.superclasses.Superclasses.len.Goals as goal

pub returns : goal.returns
returns c =
    let parts = c.self.inside in
    c.len.ensures ∙ sym (ap length (sym c.self.view_is) ∙ length-filled (length parts.lists) parts.apart parts.lists c.self.invariant.long)
