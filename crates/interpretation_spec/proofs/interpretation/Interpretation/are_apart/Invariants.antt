use Rattle.std.proofs.Common.{◌≡◌, ◌↔◌, ℕ, ◌<◌, get_or, length, true}
use Rattle.axioms.specs.Ontology.{expression}
use Rattle.interpretation_spec.specs.NamedInterpretation.{interpretation_of}
use Rattle.interpretation_spec.specs.Interpretation.{IsIn, IsApart}
use Rattle.number_sets.specs.Members.{has}
use Rattle.interpretation_spec.proofs.interpretation.Interpretation.are_apart.Given as goal

abbrev pub invariant-loop-operand : goal.invariant-loop-operand
invariant-loop-operand l =
    let i = interpretation_of l.ontology.names l.self in
    record {
      long : length l.seen ≡ l.self.size;
      seen : (x : ℕ) → x < l.self.size → (has l.seen x ≡ true) ↔ ((k : ℕ) × (k < l.operand-index) × IsIn i (expression l.ontology (get_or l.operands k record { 0 = 0 }).0) x);
      apart : (k m : ℕ) → k < m → m < l.operand-index → IsApart i (expression l.ontology (get_or l.operands k record { 0 = 0 }).0) (expression l.ontology (get_or l.operands m record { 0 = 0 }).0);
    }
