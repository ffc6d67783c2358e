use Rattle.std.proofs.Common.{◌+◌, ◌-◌, ◌≤◌, ℕ, List, length, drop, ap, ◌∙◌, arith}
use Rattle.std.proofs.lemmas.List.{length-drop, length-take-le, with_items_is}
use Rattle.std.specs.Vec.{with_items}
use borrow.Rule.Slice.PartMut.{put_mid, same_len_mid}
use Rattle.indexes.proofs.Packing.{bounds_here, taken_out}
use Rattle.indexes.proofs.packed.Packed.remove.Goals as goal

pub offset_bounds-deref_mut-start : goal.offset_bounds-deref_mut-start
offset_bounds-deref_mut-start c =
    let bounds = bounds_here c.self.inside.spans.items c.self.inside.numbers.items c.args.self.now c.args.place c.index.result.now c.self.invariant c.self.view_is c.requires c.index.ensures in
    let low : c.index.result.now.start ≤ length c.deref_mut.result.now = omega (arith, bounds.0, bounds.1, ap length c.deref_mut.ensures.value) in
    omega (arith, low, c.deref_mut.type_inv.1)

pub slice_bounds-gather_others-count : goal.slice_bounds-gather_others-count
slice_bounds-gather_others-count c = (bounds_here c.self.inside.spans.items c.self.inside.numbers.items c.args.self.now c.args.place c.index.result.now c.self.invariant c.self.view_is c.requires c.index.ensures).0

pub slice_bounds-gather_others-start : goal.slice_bounds-gather_others-start
slice_bounds-gather_others-start c = (bounds_here c.self.inside.spans.items c.self.inside.numbers.items c.args.self.now c.args.place c.index.result.now c.self.invariant c.self.view_is c.requires c.index.ensures).0

pub slice_bounds-gather_others-end : goal.slice_bounds-gather_others-end
slice_bounds-gather_others-end c =
    let bounds = bounds_here c.self.inside.spans.items c.self.inside.numbers.items c.args.self.now c.args.place c.index.result.now c.self.invariant c.self.view_is c.requires c.index.ensures in
    let low : c.index.result.now.end ≤ length c.deref_mut.result.now = omega (arith, bounds.1, ap length c.deref_mut.ensures.value) in
    low

pub overflow_add-start : goal.overflow_add-start
overflow_add-start c =
    let bounds = bounds_here c.self.inside.spans.items c.self.inside.numbers.items c.args.self.now c.args.place c.index.result.now c.self.invariant c.self.view_is c.requires c.index.ensures in
    let many = length-take-le (c.index.result.now.end - c.index.result.now.start) (drop c.index.result.now.start c.deref_mut.result.now) in
    let low : c.index.result.now.start + c.gather_others-others.result ≤ length c.deref_mut.result.now = omega (arith, bounds.0, bounds.1, ap length c.deref_mut.ensures.value, c.gather_others-others.ensures.few, many (omega (arith, length-drop c.index.result.now.start c.deref_mut.result.now, bounds.1, ap length c.deref_mut.ensures.value))) in
    omega (arith, low, c.deref_mut.type_inv.0)

pub invariant_of-self : goal.invariant_of-self
invariant_of-self c =
    let ys = c.gather_others-others.new.list in
    let xs = c.deref_mut.result.now in
    let here = c.index.result.now in
    let put : List ℕ = put_mid here.start (here.end - here.start) xs ys in
    let is = with_items_is c.self.inside.numbers put (same_len_mid here.start (here.end - here.start) xs ys c.gather_others-others.auto.list ∙ c.deref_mut.ensures.len) in
    (taken_out c.self.inside.spans.items c.self.inside.numbers.items xs ys (with_items c.self.inside.numbers put).items c.args.self.now c.args.place c.gather_others-others.result c.args.number here
    c.self.invariant c.self.view_is c.requires c.index.ensures c.deref_mut.ensures.value c.gather_others-others.auto.list c.gather_others-others.ensures.few c.gather_others-others.ensures.others is).0

pub returns : goal.returns
returns c =
    let ys = c.gather_others-others.new.list in
    let xs = c.deref_mut.result.now in
    let here = c.index.result.now in
    let put : List ℕ = put_mid here.start (here.end - here.start) xs ys in
    let is = with_items_is c.self.inside.numbers put (same_len_mid here.start (here.end - here.start) xs ys c.gather_others-others.auto.list ∙ c.deref_mut.ensures.len) in
    (taken_out c.self.inside.spans.items c.self.inside.numbers.items xs ys (with_items c.self.inside.numbers put).items c.args.self.now c.args.place c.gather_others-others.result c.args.number here
    c.self.invariant c.self.view_is c.requires c.index.ensures c.deref_mut.ensures.value c.gather_others-others.auto.list c.gather_others-others.ensures.few c.gather_others-others.ensures.others is).1
