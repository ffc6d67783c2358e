use Rattle.std.proofs.Common.{◌≡◌, ◌↔◌, ℕ, ◌<◌, length, get_or, true}
use Rattle.certificate.specs.View.{listed_of}
use Rattle.number_sets.specs.Members.{has}
use Rattle.listed_model.specs.Extensions.{IsElement}
use Rattle.listed_model.proofs.tester.Tester.are_apart.Given as goal

abbrev pub invariant-loop-operand : goal.invariant-loop-operand
invariant-loop-operand l = record {
  len : length l.seen ≡ length l.fn.seen;
  seen : (x : ℕ) → x < length l.fn.seen → (has l.seen x ≡ true) ↔ ((k : ℕ) × (k < l.operand-index) × IsElement l.self.ontology.now (listed_of l.self.listed.now) (get_or l.operands k record { 0 = 0 }).0 x);
  apart : (k m : ℕ) → k < m → m < l.operand-index → (x : ℕ) → IsElement l.self.ontology.now (listed_of l.self.listed.now) (get_or l.operands k record { 0 = 0 }).0 x
      → IsElement l.self.ontology.now (listed_of l.self.listed.now) (get_or l.operands m record { 0 = 0 }).0 x → ⊥;
}
