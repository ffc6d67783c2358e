use Rattle.std.proofs.Common.{◌≡◌, ℕ, ◌<◌}
use Rattle.interpretation_spec.specs.NumberedInterpretation.{targets_of}
use Rattle.interpretation_spec.proofs.interpretation.Interpretation.have_same_targets.Given as goal

abbrev pub invariant-loop-source : goal.invariant-loop-source
invariant-loop-source l = (x : ℕ) → x < l.source → targets_of l.self l.fn.first.0 x ≡ targets_of l.self l.fn.second.0 x
