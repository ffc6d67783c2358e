use Rattle.std.proofs.Common.{◌≡◌, ℕ, ◌<◌, ◌≤◌, ◌↔◌, length, slice_get, Some}
use Rattle.axioms.specs.View.{expr_numbers}
use Rattle.explain.specs.Marks.{IsMarked, IsWantedFact}
use Rattle.facts.specs.declared.contexts.Fact.{Fact}
use Rattle.explain.proofs.wanted.wanted.Given as goal

abbrev pub invariant-loop-number : goal.invariant-loop-number
invariant-loop-number l = record {
  long : length l.marks ≡ length l.facts;
  before : (n : ℕ) (f : Fact) → n < l.number → slice_get l.facts n ≡ Some f → IsMarked l.marks n ↔ IsWantedFact l.ontology (expr_numbers l.asked) f;
  after : (n : ℕ) → l.number ≤ n → IsMarked l.marks n → ⊥;
}
