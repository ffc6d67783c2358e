use Rattle.std.proofs.Common.{◌≡◌, ℕ, ◌<◌, true}
use Rattle.axioms.specs.View.{prop_numbers}
use Rattle.interpretation_spec.specs.NamedInterpretation.{is_target, HasNumberedPath}
use Rattle.interpretation_spec.proofs.interpretation.Interpretation.is_sub_property.Given as goal

abbrev pub invariant-loop-source : goal.invariant-loop-source
invariant-loop-source l =
    (x : ℕ) → x < l.source → (y : ℕ) → y < l.self.size → HasNumberedPath l.self (prop_numbers l.chain) x y → is_target l.self l.fn.property.0 x y ≡ true
