use Rattle.std.proofs.Common.{◌≡◌, ◌≤◌, ◌⊎◌, length}
use Rattle.normalise.specs.Roots.{AddsThose, IsIndividualWithin}
use Rattle.normalise.proofs.starting.push_individuals.Given as goal

abbrev pub invariant-loop-number : goal.invariant-loop-number
invariant-loop-number l = record {
  adds : AddsThose (IsIndividualWithin l.from l.number) l.initial.roots.items l.roots.items;
  within : (l.number ≡ l.from) ⊎ (l.number ≤ length l.ontology.names.individuals);
}
