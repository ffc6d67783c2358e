use Rattle.std.proofs.Common.{◌≡◌, ◌↔◌, ℕ, ◌<◌, get_or, true}
use Rattle.std.specs.List.Sorted.{IsStrictlyIncreasing}
use Rattle.certificate.specs.View.{listed_of}
use Rattle.listed_model.specs.Extensions.{IsElement}
use Rattle.listed_model.specs.Members.{holds}
use Rattle.listed_model.proofs.tester.Tester.+those_in.Given as goal

abbrev pub decreases-those_in : goal.decreases-those_in
decreases-those_in l = l.expression.0

abbrev pub invariant-loop-operand : goal.invariant-loop-operand
invariant-loop-operand l = record {
  ascending : IsStrictlyIncreasing l.those.items;
  members : (x : ℕ) → (holds l.those.items x ≡ true)
      ↔ ((holds l.elements x ≡ true) × ((k : ℕ) → k < l.operand-index → IsElement l.self.ontology.now (listed_of l.self.listed.now) (get_or l.operand-items k record { 0 = 0 }).0 x));
}
