use Rattle.std.proofs.Common.{length, sym, ap, ◌∙◌, arith}
use Rattle.indexes.proofs.Packing.{bounds_here, list_here}
use Rattle.indexes.specs.Packed.{standing}
use Rattle.indexes.proofs.packed.Packed.of.Goals as goal

pub part-requires : goal.part-requires
part-requires c =
    let bounds = bounds_here c.self.inside.spans.items c.self.inside.numbers.items c.args.self.now c.args.place c.index.result.now c.self.invariant c.self.view_is c.requires c.index.ensures in
    record { ordered = bounds.0; within = omega (arith, bounds.1, ap length c.deref.ensures.value) }

pub returns : goal.returns
returns c =
    c.part.ensures
    ∙ ap (λ numbers. standing numbers c.index.result.now) c.deref.ensures.value
    ∙ sym (list_here c.self.inside.spans.items c.self.inside.numbers.items c.args.self.now c.args.place c.index.result.now c.self.view_is c.requires c.index.ensures)
