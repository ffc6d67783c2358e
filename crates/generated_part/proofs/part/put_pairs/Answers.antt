use Rattle.std.proofs.Common.{◌≡◌, ℕ, get_or, length, slice_get, Some, Contains, List, ap, subst, subst₂, arith}
use Rattle.std.proofs.lemmas.List.Elements.{Contains-get_or}
use Rattle.std.proofs.lemmas.Option.{slice_get-get_or}
use Rattle.axioms.specs.declared.ids.PropId.{PropId}
use Rattle.cert_check.specs.Additions.{AddsPairs}
use Rattle.generated_part.proofs.Parts.{PutsPairs, pairs_step}
use Rattle.generated_part.proofs.part.put_pairs.Goals as goal

pub put_pairs_of-requires : goal.put_pairs_of-requires
put_pairs_of-requires c = λ k d l.
    let pair = get_or c.at.result.now k d in
    let there = subst (λ (ps : List (PropId × ℕ)). Contains ps pair) c.at.ensures (Contains-get_or c.at.result.now k d l) in
    omega (arith, c.requires _ pair.1 pair.0 there, ap length c.deref.ensures.value)

pub loop-place-preserved : goal.loop-place-preserved
loop-place-preserved c =
    let chosen = c.args.chosen.now in
    let items = c.deref-element-items.result.now in
    let k = c.loop-place.place in
    let x = get_or items k 0 in
    let there : slice_get chosen.elements.items k ≡ Some x =
    subst (λ (xs : List ℕ). slice_get xs k ≡ Some x) c.deref-element-items.ensures.value (slice_get-get_or items k 0 c.loop-place-test.true) in
    pairs_step c.args.pairs.now chosen.elements.items chosen.places.items k x there c.args.part.now c.loop-place.part c.put_pairs_of.new.part
    c.loop-place.invariant
    (subst₂ (λ (ps : List (PropId × ℕ)) (places : List ℕ). AddsPairs (PutsPairs k ps places) c.loop-place.part c.put_pairs_of.new.part) c.at.ensures c.deref.ensures.value c.in_ok-put_pairs_of.ensures)
