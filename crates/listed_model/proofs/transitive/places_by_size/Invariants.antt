use Rattle.std.proofs.Common.{◌≡◌, ℕ, map, take}
use Rattle.std.specs.List.{range_with_len}
use Rattle.listed_model.proofs.transitive.places_by_size.Given as goal

abbrev pub invariant-loop-place : goal.invariant-loop-place
invariant-loop-place l = map (λ (p : ℕ × ℕ). p.1) l.counted.items ≡ range_with_len 0 l.place

abbrev pub invariant-loop-pair : goal.invariant-loop-pair
invariant-loop-pair l = l.places.items ≡ map (λ (p : ℕ × ℕ). p.1) (take l.pair-index l.pair-items)
