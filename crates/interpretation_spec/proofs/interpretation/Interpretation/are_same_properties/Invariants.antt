use Rattle.std.proofs.Common.{ℕ, ◌<◌, get_or}
use Rattle.interpretation_spec.specs.NumberedInterpretation.{HaveSameTargets}
use Rattle.interpretation_spec.proofs.interpretation.Interpretation.are_same_properties.Given as goal

abbrev pub invariant-loop-property : goal.invariant-loop-property
invariant-loop-property l =
    (k : ℕ) → k < l.property-index → HaveSameTargets l.self (get_or l.properties 0 record { 0 = 0 }).0 (get_or l.properties k record { 0 = 0 }).0
