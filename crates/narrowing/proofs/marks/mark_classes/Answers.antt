use Rattle.std.proofs.Common.{List, ℕ, take, sym, subst}
use Rattle.certificate.specs.declared.listed.ClassRow.{ClassRow}
use Rattle.narrowing.specs.Gathered.{class_elements}
use Rattle.narrowing.proofs.Marking.{IsMarked, marked_more, refused, flat_map_more, flat_map_among}
use Rattle.narrowing.proofs.marks.mark_classes.Goals as goal

pub returns-then-not-mark_elements-clause-in_range : goal.returns-then-not-mark_elements-clause-in_range
returns-then-not-mark_elements-clause-in_range c =
    let rows = c.args.classes.now in
    let i = c.loop-class.class-index in
    let class = c.class-item.result in
    let elements = c.deref.result.now in
    refused c.args.row.now c.loop-class.row (class_elements (take i rows)) elements c.mark_elements.result c.loop-class.invariant c.mark_elements.ensures.in_range
    (class_elements rows) (flat_map_among (λ (class : ClassRow). class.elements.items) rows i class elements c.loop-class-test.true c.class-item.is c.deref.ensures.value) c.if-not-mark_elements.true

pub loop-class-preserved : goal.loop-class-preserved
loop-class-preserved c =
    let rows = c.args.classes.now in
    let i = c.loop-class.class-index in
    let class = c.class-item.result in
    let elements = c.deref.result.now in
    subst (λ (xs : List ℕ). IsMarked c.args.row.now xs c.mark_elements.new.row) (sym (flat_map_more (λ (class : ClassRow). class.elements.items) rows i class elements c.loop-class-test.true c.class-item.is c.deref.ensures.value))
    (marked_more c.args.row.now c.loop-class.row (class_elements (take i rows)) elements c.mark_elements.result c.loop-class.invariant c.mark_elements.ensures.in_range c.mark_elements.new.row c.mark_elements.ensures.after c.if-not-mark_elements.false)
