use Rattle.std.proofs.lemmas.Option.{slice_get-get_or}
use Rattle.cert_check.proofs.Additions.{went_well}
use Rattle.generated_part.proofs.Parts.{pair_step}
use Rattle.generated_part.proofs.part.put_pairs_of.Goals as goal

pub loop-pair-preserved : goal.loop-pair-preserved
loop-pair-preserved c =
    let well = went_well c.put_pair.result c.is_err.result c.is_err.ensures.negation c.if-is_err.false c.put_pair.ensures.after in
    let taken = (went_well c.put_pair.result c.is_err.result c.is_err.ensures.negation c.if-is_err.false c.put_pair.ensures.taken).1 in
    pair_step c.args.source c.args.pairs.now c.args.places.now c.loop-pair.pair-index _ (slice_get-get_or c.args.pairs.now c.loop-pair.pair-index _ c.loop-pair-test.true) c.args.part.now c.loop-pair.part c.put_pair.new.self
    c.well_formed-in-loop-pair.ensures taken.0 taken.1 well.1 c.loop-pair.invariant
