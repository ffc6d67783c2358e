use Rattle.std.proofs.Common.{◌≡◌, ℕ, [], map, replicate}
use Rattle.interpretation_spec.specs.Fields.{kept_pairs}
use Rattle.interpretation_spec.proofs.pairs.without_pairs.Given as goal

abbrev pub invariant-loop : goal.invariant-loop
invariant-loop l = (size : ℕ) → map (kept_pairs size) l.all.items ≡ replicate l.counter (replicate size [])
