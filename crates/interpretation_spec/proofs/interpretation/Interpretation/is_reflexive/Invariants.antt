use Rattle.std.proofs.Common.{◌≡◌, ℕ, ◌<◌, true}
use Rattle.interpretation_spec.specs.NamedInterpretation.{is_target}
use Rattle.interpretation_spec.proofs.interpretation.Interpretation.is_reflexive.Given as goal

abbrev pub invariant-loop-element : goal.invariant-loop-element
invariant-loop-element l = (x : ℕ) → x < l.element-counter → is_target l.self l.fn.property.0 x x ≡ true
