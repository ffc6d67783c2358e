use Rattle.std.proofs.Common.{◌≡◌, ℕ, ◌<◌, get_or}
use Rattle.interpretation_spec.specs.NumberedInterpretation.{element_of}
use Rattle.interpretation_spec.proofs.interpretation.Interpretation.have_one_element.Given as goal

abbrev pub invariant-loop-individual : goal.invariant-loop-individual
invariant-loop-individual l =
    (k : ℕ) → k < l.individual-index → element_of l.self (get_or l.individuals k record { 0 = 0 }).0 ≡ l.element
