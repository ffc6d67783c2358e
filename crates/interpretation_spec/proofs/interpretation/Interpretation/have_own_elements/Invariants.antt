use Rattle.std.proofs.Common.{◌≡◌, ◌↔◌, ℕ, ◌<◌, get_or, length, true}
use Rattle.interpretation_spec.specs.NumberedInterpretation.{HaveTwoElements, element_of}
use Rattle.number_sets.specs.Members.{has}
use Rattle.interpretation_spec.proofs.interpretation.Interpretation.have_own_elements.Given as goal

abbrev pub invariant-loop-individual : goal.invariant-loop-individual
invariant-loop-individual l = record {
  long : length l.met ≡ l.self.size;
  met : (x : ℕ) → x < l.self.size → (has l.met x ≡ true) ↔ ((k : ℕ) × (k < l.individual-index) × (element_of l.self (get_or l.individuals k record { 0 = 0 }).0 ≡ x));
  apart : (k m : ℕ) → k < m → m < l.individual-index → HaveTwoElements l.self (get_or l.individuals k record { 0 = 0 }).0 (get_or l.individuals m record { 0 = 0 }).0;
}
