use Rattle.std.proofs.Common.{◌≡◌, ◌↔◌, ℕ, ◌<◌, length, take, true}
use Rattle.axioms.specs.View.{prop_numbers}
use Rattle.interpretation_spec.specs.NamedInterpretation.{HasNumberedPath}
use Rattle.number_sets.specs.Members.{has}
use Rattle.interpretation_spec.proofs.interpretation.Interpretation.reached.Given as goal

abbrev pub invariant-loop-property : goal.invariant-loop-property
invariant-loop-property l = record {
  long : length l.reached ≡ l.self.size;
  members : (y : ℕ) → y < l.self.size → (has l.reached y ≡ true) ↔ HasNumberedPath l.self (prop_numbers (take l.property-index l.chain)) l.fn.source y;
}
