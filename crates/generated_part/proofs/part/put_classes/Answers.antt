use Rattle.std.proofs.Common.{get_or, List, subst}
use Rattle.std.proofs.lemmas.Option.{slice_get-get_or}
use Rattle.axioms.specs.declared.ids.ClassId.{ClassId}
use Rattle.cert_check.specs.Additions.{AddsMembers}
use Rattle.generated_part.proofs.Parts.{PutsClasses, classes_step}
use Rattle.generated_part.proofs.part.put_classes.Goals as goal

pub loop-place-preserved : goal.loop-place-preserved
loop-place-preserved c =
    let elements = c.args.elements.now in
    let k = c.loop-place.place in
    classes_step c.args.classes.now elements k (get_or elements k 0) (slice_get-get_or elements k 0 c.loop-place-test.true) c.args.part.now c.loop-place.part c.put_classes_of.new.part
    c.loop-place.invariant
    (subst (λ (cs : List ClassId). AddsMembers (PutsClasses k cs) c.loop-place.part c.put_classes_of.new.part) c.at.ensures c.in_ok-put_classes_of.ensures)
