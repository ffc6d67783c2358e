use Rattle.std.proofs.Common.{◌≡◌, ℕ, ◌<◌, get_or}
use Rattle.listed_model.specs.Listing.{element_of}
use Rattle.listed_model.proofs.individual_axioms.have_one_element.Given as goal

abbrev pub invariant-loop-individual : goal.invariant-loop-individual
invariant-loop-individual l =
    (k : ℕ) → k < l.individual-index → element_of l.elements (get_or l.individuals k record { 0 = 0 }).0 ≡ l.element
