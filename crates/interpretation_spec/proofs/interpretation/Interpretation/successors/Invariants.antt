use Rattle.std.proofs.Common.{◌≡◌, ◌↔◌, ℕ, ◌<◌, length, true}
use Rattle.interpretation_spec.specs.NamedInterpretation.{is_target}
use Rattle.number_sets.specs.Members.{has}
use Rattle.interpretation_spec.proofs.interpretation.Interpretation.successors.Given as goal

abbrev pub invariant-loop-source : goal.invariant-loop-source
invariant-loop-source l = record {
  long : length l.successors ≡ l.self.size;
  members : (y : ℕ) → y < l.self.size → (has l.successors y ≡ true) ↔ ((x : ℕ) × (x < l.source) × (has l.sources x ≡ true) × (is_target l.self l.fn.property.0 x y ≡ true));
}
