use Rattle.std.proofs.Common.{◌≡◌, ◌↔◌, ℕ, ◌<◌, get_or, length, true}
use Rattle.listed_model.specs.Listing.{HaveTwoElements, element_of}
use Rattle.number_sets.specs.Members.{has}
use Rattle.listed_model.proofs.individual_axioms.have_own_elements.Given as goal

abbrev pub invariant-loop-individual : goal.invariant-loop-individual
invariant-loop-individual l = record {
  len : length l.met ≡ length l.fn.met;
  met : (x : ℕ) → x < length l.fn.met → (has l.met x ≡ true) ↔ ((k : ℕ) × (k < l.individual-index) × (element_of l.elements (get_or l.individuals k record { 0 = 0 }).0 ≡ x));
  apart : (k m : ℕ) → k < m → m < l.individual-index → HaveTwoElements l.elements (get_or l.individuals k record { 0 = 0 }).0 (get_or l.individuals m record { 0 = 0 }).0;
}
