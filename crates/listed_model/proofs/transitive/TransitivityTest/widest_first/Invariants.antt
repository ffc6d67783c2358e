use Rattle.std.proofs.Common.{◌≡◌, ℕ, map, take}
use Rattle.listed_model.proofs.transitive.TransitivityTest.widest_first.Given as goal

abbrev pub invariant-loop-number : goal.invariant-loop-number
invariant-loop-number l = map (λ (p : ℕ × ℕ). p.1) l.counted.items ≡ take l.number-index l.numbers

abbrev pub invariant-loop-pair : goal.invariant-loop-pair
invariant-loop-pair l = l.ordered.items ≡ map (λ (p : ℕ × ℕ). p.1) (take l.pair-index l.pair-items)
