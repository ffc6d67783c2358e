use Rattle.std.proofs.Common.{ℕ, get_or, List, subst, arith}
use Rattle.std.proofs.lemmas.List.{take_all}
use Rattle.std.proofs.lemmas.Option.{slice_get-get_or}
use Rattle.cert_check.specs.Additions.{PutsIndividuals}
use Rattle.cert_check.proofs.Additions.{individual_step, went_well}
use Rattle.cert_check.proofs.listing.put_individuals.Goals as goal

pub loop-i-preserved : goal.loop-i-preserved
loop-i-preserved c =
    let elements = c.args.elements.now in
    let k = c.loop-i.i in
    let result = c.put_individual.result in
    let well = went_well result c.is_err.result c.is_err.ensures.negation c.if-is_err.false c.put_individual.ensures.after in
    let taken = c.put_individual.ensures.taken.0 well.0 in
    individual_step elements k (get_or elements k 0) (slice_get-get_or elements k 0 c.loop-i-test.true)
    c.args.interpretation.now c.loop-i.interpretation c.put_individual.new.self taken.0 well.1 c.loop-i.invariant

pub returns : goal.returns
returns c =
    subst (λ (xs : List ℕ). PutsIndividuals xs c.args.interpretation.now c.loop-i.interpretation)
    (take_all c.loop-i.i c.args.elements.now (omega arith)) c.loop-i.invariant
