use Rattle.std.proofs.Common.{get_or, map}
use Rattle.std.specs.Prelude.{slice_index}
use Rattle.std.proofs.lemmas.Option.{slice_get-get_or}
use Rattle.lemmas.proofs.Mapped.{slice_get_map}
use Rattle.cert_check.proofs.Additions.{individual_step, went_well}
use Rattle.generated_part.proofs.part.put_individuals.Goals as goal

pub loop-number-preserved : goal.loop-number-preserved
loop-number-preserved c =
    let places = c.args.places.now in
    let individuals = c.args.individuals.now in
    let k = c.loop-number.number in
    let x = get_or individuals k 0 in
    let well = went_well c.put_individual.result c.is_err.result c.is_err.ensures.negation c.if-is_err.false c.put_individual.ensures.after in
    let taken = c.put_individual.ensures.taken.0 well.0 in
    individual_step (map (slice_index places) individuals) k (slice_index places x) (slice_get_map (slice_index places) individuals k x (slice_get-get_or individuals k 0 c.loop-number-test.true))
    c.args.part.now c.loop-number.part c.put_individual.new.self taken.0 well.1 c.loop-number.invariant
