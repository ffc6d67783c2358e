use Rattle.std.proofs.Common.{◌≡◌, ℕ, ◌<◌, true}
use Rattle.interpretation_spec.specs.NamedInterpretation.{is_target}
use Rattle.number_sets.specs.Members.{has}
use Rattle.interpretation_spec.proofs.interpretation.Interpretation.has_sources_in.Given as goal

abbrev pub invariant-loop-source : goal.invariant-loop-source
invariant-loop-source l = (x : ℕ) → x < l.source → (y : ℕ) → is_target l.self l.fn.property.0 x y ≡ true → has l.row x ≡ true
