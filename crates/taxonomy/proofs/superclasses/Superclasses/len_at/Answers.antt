use Rattle.std.proofs.Common.{length, sym, ◌∙◌}
use Rattle.taxonomy.specs.Superclasses.{filled}
use Rattle.taxonomy.proofs.Filled.{size_found, size_beyond}
use Rattle.taxonomy.proofs.superclasses.Superclasses.len_at.Goals as goal

pub returns-in-Some : goal.returns-in-Some
returns-in-Some c =
    let parts = c.self.inside in
    size_found (filled (length parts.lists) parts.apart parts.lists) c.args.self.now c.deref.result.now c.args.c _ (sym c.self.view_is) (c.deref.ensures.value ∙ c.self.invariant.sized) c.in-Some.ensures.lookup.0 c.in-Some.ensures.lookup.1

pub returns-in-None : goal.returns-in-None
returns-in-None c =
    let parts = c.self.inside in
    size_beyond (filled (length parts.lists) parts.apart parts.lists) c.args.self.now c.deref.result.now c.args.c (sym c.self.view_is) (c.deref.ensures.value ∙ c.self.invariant.sized) c.in-None.ensures.lookup.0
