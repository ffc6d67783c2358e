use Rattle.std.proofs.Common.{ℕ, map, ap, ◌∙◌}
use Rattle.std.proofs.lemmas.List.{take_all}
use Rattle.std.proofs.lemmas.List.Sorted.{Contains-permutation, IsPermutation-sym}
use Rattle.listed_model.proofs.Members.{same_holds}
use Rattle.listed_model.proofs.Walks.{sorted_numbers}
use Rattle.listed_model.proofs.transitive.TransitivityTest.widest_first.Goals as goal

pub returns : goal.returns
returns c = λ y.
    let numbers = c.args.numbers.now in
    let sorted = c.sort_unstable.new.self.items in
    let ordered = c.loop-pair.ordered.items in
    let all = take_all c.loop-number.number-index numbers c.loop-number-test.false in
    let done = take_all c.loop-pair.pair-index c.deref-pair-items.result.now c.loop-pair-test.false ∙ c.deref-pair-items.ensures.value in
    same_holds c.reverse.new.self.items ordered y
    (Contains-permutation c.reverse.new.self.items ordered y (IsPermutation-sym ordered c.reverse.new.self.items c.reverse.ensures.permutation))
    (Contains-permutation ordered c.reverse.new.self.items y c.reverse.ensures.permutation)
    ∙ sorted_numbers c.loop-number.counted.items sorted numbers ordered c.sort_unstable.ensures.permutation (c.loop-number.invariant ∙ all) (c.loop-pair.invariant ∙ ap (map (λ (p : ℕ × ℕ). p.1)) done) y
