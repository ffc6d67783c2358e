use Rattle.std.proofs.Common.{ℕ, ◌<◌, List, [], ◌∷◌, ◌++◌, get_or, length, map, sym, ap, ◌∙◌, arith}
use Rattle.std.specs.List.{range_with_len}
use Rattle.std.proofs.lemmas.List.{take_all, map_push}
use Rattle.std.proofs.lemmas.List.Elements.{Contains-get_or}
use Rattle.lemmas.proofs.Ranges.{range_push}
use Rattle.listed_model.proofs.Interpreted.{range_has}
use Rattle.listed_model.proofs.Members.{holds_from_Contains}
use Rattle.listed_model.proofs.Walks.{sorted_numbers}
use Rattle.listed_model.proofs.transitive.places_by_size.Goals as goal

pub loop-place-preserved : goal.loop-place-preserved
loop-place-preserved c =
    let place = c.loop-place.place in
    ap (map (λ (p : ℕ × ℕ). p.1)) c.in_ok-push.ensures.items
    ∙ map_push (λ (p : ℕ × ℕ). p.1) c.loop-place.counted.items (length c.as_slice.result.now, place)
    ∙ ap (λ (xs : List ℕ). xs ++ place ∷ []) c.loop-place.invariant
    ∙ sym (range_push place)

pub returns-clause-within : goal.returns-clause-within
returns-clause-within c = λ k d l.
    let sorted = c.sort_unstable.new.self.items in
    let places = c.loop-pair.places.items in
    let n = c.loop-place.place in
    let done = take_all c.loop-pair.pair-index c.deref-pair-items.result.now c.loop-pair-test.false ∙ c.deref-pair-items.ensures.value in
    let x = get_or places k d in
    let same = sorted_numbers c.loop-place.counted.items sorted (range_with_len 0 n) places c.sort_unstable.ensures.permutation c.loop-place.invariant (c.loop-pair.invariant ∙ ap (map (λ (p : ℕ × ℕ). p.1)) done) x in
    let below : x < n = (range_has n x).0 (sym same ∙ holds_from_Contains places x (Contains-get_or places k d l)) in
    let end = c.loop-place.auto.place-end in
    omega (arith, below, end)

pub returns-clause-all : goal.returns-clause-all
returns-clause-all c = λ k l.
    let sorted = c.sort_unstable.new.self.items in
    let places = c.loop-pair.places.items in
    let n = c.loop-place.place in
    let done = take_all c.loop-pair.pair-index c.deref-pair-items.result.now c.loop-pair-test.false ∙ c.deref-pair-items.ensures.value in
    let same = sorted_numbers c.loop-place.counted.items sorted (range_with_len 0 n) places c.sort_unstable.ensures.permutation c.loop-place.invariant (c.loop-pair.invariant ∙ ap (map (λ (p : ℕ × ℕ). p.1)) done) k in
    let below : k < n = omega (arith, c.loop-place-test.false) in
    same ∙ (range_has n k).1 below
