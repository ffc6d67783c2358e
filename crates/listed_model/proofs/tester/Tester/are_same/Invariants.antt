use Rattle.std.proofs.Common.{◌↔◌, ℕ, ◌<◌, get_or}
use Rattle.certificate.specs.View.{listed_of}
use Rattle.listed_model.specs.Extensions.{IsElement}
use Rattle.listed_model.proofs.tester.Tester.are_same.Given as goal

abbrev pub invariant-loop-operand : goal.invariant-loop-operand
invariant-loop-operand l = (k : ℕ) → k < l.operand-index → (x : ℕ)
    → IsElement l.self.ontology.now (listed_of l.self.listed.now) (get_or l.operands 0 record { 0 = 0 }).0 x ↔ IsElement l.self.ontology.now (listed_of l.self.listed.now) (get_or l.operands k record { 0 = 0 }).0 x
