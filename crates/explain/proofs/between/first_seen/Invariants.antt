use Rattle.std.proofs.Common.{◌≡◌, ◌<◌, ℕ, false, slice_get, Some}
use Rattle.axioms.specs.declared.ids.IndId.{IndId as Ind}
use Rattle.number_sets.specs.Members.{has}
use Rattle.explain.proofs.between.first_seen.Given as goal

abbrev pub invariant-loop-individual : goal.invariant-loop-individual
invariant-loop-individual l = (n : ℕ) (i : Ind) → n < l.individual-index → slice_get l.individuals n ≡ Some i → has l.seen i.0 ≡ false
