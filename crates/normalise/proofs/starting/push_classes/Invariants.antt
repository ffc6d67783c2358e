use Rattle.normalise.specs.Roots.{AddsThose, IsNamedWithin}
use Rattle.normalise.proofs.starting.push_classes.Given as goal

abbrev pub invariant-loop-number : goal.invariant-loop-number
invariant-loop-number l = AddsThose (IsNamedWithin l.ontology l.from l.number) l.initial.roots.items l.roots.items
