use Rattle.std.proofs.Common.{◌≡◌, get_or, length, Contains, List, ℕ, ap, subst, arith}
use Rattle.std.proofs.lemmas.List.{take_all}
use Rattle.certificate.specs.View.{targets_in}
use Rattle.interpretation_spec.proofs.Steps.{slice_get_same}
use Rattle.cert_check.specs.Additions.{AddsPairs}
use Rattle.cert_check.proofs.Additions.{pair_step, went_well}
use Rattle.cert_check.proofs.listing.put_targets.Goals as goal

pub loop-target-preserved : goal.loop-target-preserved
loop-target-preserved c =
    let row = c.args.row.now in
    let items = c.as_slice-target-items.result.now in
    let k = c.loop-target.target-index in
    let there = slice_get_same items (targets_in row.targets) k 0 c.as_slice-target-items.ensures c.loop-target-test.true in
    let well = went_well c.put_pair.result c.is_err.result c.is_err.ensures.negation c.if-is_err.false c.put_pair.ensures.after in
    let taken = (went_well c.put_pair.result c.is_err.result c.is_err.ensures.negation c.if-is_err.false c.put_pair.ensures.taken).1 in
    pair_step row.property.0 row.source (targets_in row.targets) k (get_or items k 0) there
    c.args.interpretation.now c.loop-target.interpretation c.put_pair.new.self
    c.well_formed-in-loop-target.ensures taken.0 taken.1 well.1 c.loop-target.invariant

pub returns : goal.returns
returns c =
    let row = c.args.row.now in
    let value = c.as_slice-target-items.ensures in
    let long : length c.as_slice-target-items.result.now ≡ length (targets_in row.targets) = ap length value in
    subst (λ (ys : List ℕ). AddsPairs (λ r x y. (row.property.0 ≡ r) × (row.source ≡ x) × Contains ys y) c.args.interpretation.now c.loop-target.interpretation)
    (take_all c.loop-target.target-index (targets_in row.targets) (omega arith)) c.loop-target.invariant
