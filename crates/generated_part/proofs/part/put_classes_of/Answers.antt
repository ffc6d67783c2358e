use Rattle.std.proofs.lemmas.Option.{slice_get-get_or}
use Rattle.cert_check.proofs.Additions.{went_well}
use Rattle.generated_part.proofs.Parts.{class_step}
use Rattle.generated_part.proofs.part.put_classes_of.Goals as goal

pub loop-class-preserved : goal.loop-class-preserved
loop-class-preserved c =
    let well = went_well c.put_class.result c.is_err.result c.is_err.ensures.negation c.if-is_err.false c.put_class.ensures.after in
    let taken = (went_well c.put_class.result c.is_err.result c.is_err.ensures.negation c.if-is_err.false c.put_class.ensures.taken).1 in
    class_step c.args.element c.args.classes.now c.loop-class.class-index _ (slice_get-get_or c.args.classes.now c.loop-class.class-index _ c.loop-class-test.true) c.args.part.now c.loop-class.part c.put_class.new.self
    c.well_formed-in-loop-class.ensures taken.1 taken.2 well.1 c.loop-class.invariant
