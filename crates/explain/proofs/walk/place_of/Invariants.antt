use Rattle.std.proofs.Common.{ℕ, ◌<◌}
use Rattle.explain.specs.Search.{StandsAt}
use Rattle.explain.proofs.walk.place_of.Given as goal

abbrev pub invariant-loop-place : goal.invariant-loop-place
invariant-loop-place l = (k : ℕ) → k < l.place → StandsAt l.reached l.number k → ⊥
