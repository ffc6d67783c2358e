use Rattle.std.proofs.Common.{◌≡◌, length, slice_get, refl, arith, subst, ℕ}
use Rattle.std.proofs.lemmas.Option.{slice_get-get_or, slice_get_within}
use Rattle.indexes.specs.Disjoint.{operand_key}
use Rattle.indexes.proofs.Counting.{few_of}
use Rattle.indexes.proofs.Filling.{AreFilled, filled_under, full_under, has_place_under, none_filled_under}
use Rattle.indexes.proofs.Listing.{full_ascend, listed_under}
use Rattle.indexes.proofs.disjoint.places_listed.Goals as goal

pub new-requires : goal.new-requires
new-requires c = few_of operand_key (slice_get c.args.operands.now) (length c.args.operands.now) c.in_ok-counts.counts c.requires c.in_ok-counts.ensures

pub loop-place-init : goal.loop-place-init
loop-place-init c = none_filled_under operand_key (slice_get c.args.operands.now) (length c.args.operands.now) c.in_ok-counts.counts c.in_ok-filling.filling c.requires c.in_ok-counts.ensures c.in_ok-filling.ensures

pub place-requires : goal.place-requires
place-requires c =
    let operands = c.args.operands.now in
    has_place_under operand_key (slice_get operands) (length operands) c.loop-place.place _ (slice_get-get_or operands c.loop-place.place _ c.loop-place-test.true) c.loop-place-test.true c.loop-place.filling c.loop-place.filling c.loop-place.invariant _ refl

pub loop-place-preserved : goal.loop-place-preserved
loop-place-preserved c =
    let operands = c.args.operands.now in
    filled_under operand_key (slice_get operands) (length operands) c.loop-place.place _ (slice_get-get_or operands c.loop-place.place _ c.loop-place-test.true) c.loop-place-test.true c.loop-place.filling c.place.new.self c.loop-place.invariant _ refl c.place.ensures

pub filled-requires : goal.filled-requires
filled-requires c =
    let operands = c.args.operands.now in
    let all : c.loop-place.place ≡ length operands = omega (arith, c.loop-place.auto.place-end, c.loop-place-test.false) in
    full_under operand_key (slice_get operands) (length operands) c.loop-place.filling (subst (λ (n : ℕ). AreFilled operand_key (slice_get operands) (length operands) n c.loop-place.filling) all c.loop-place.invariant)

pub returns-clause-listed : goal.returns-clause-listed
returns-clause-listed c =
    let operands = c.args.operands.now in
    let all : c.loop-place.place ≡ length operands = omega (arith, c.loop-place.auto.place-end, c.loop-place-test.false) in
    listed_under operand_key (slice_get operands) (length operands) (slice_get_within operands) c.loop-place.filling c.filled.result
    (subst (λ (n : ℕ). AreFilled operand_key (slice_get operands) (length operands) n c.loop-place.filling) all c.loop-place.invariant) c.filled.ensures

pub returns-clause-ascend : goal.returns-clause-ascend
returns-clause-ascend c =
    let operands = c.args.operands.now in
    let all : c.loop-place.place ≡ length operands = omega (arith, c.loop-place.auto.place-end, c.loop-place-test.false) in
    full_ascend c.loop-place.filling c.filled.result
    (full_under operand_key (slice_get operands) (length operands) c.loop-place.filling (subst (λ (n : ℕ). AreFilled operand_key (slice_get operands) (length operands) n c.loop-place.filling) all c.loop-place.invariant)) c.filled.ensures
