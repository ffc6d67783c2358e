use Rattle.std.proofs.Common.{◌≡◌, ◌<◌, ◌↔◌, ℕ, true, length}
use Rattle.number_sets.specs.Members.{has}
use Rattle.countermodel.specs.Members.{IsOwnClass}
use Rattle.countermodel.proofs.own_classes.own_classes.Given as goal

abbrev pub invariant-loop-number : goal.invariant-loop-number
invariant-loop-number l = record {
  long : length l.own ≡ length l.ontology.nodes;
  told : (e : ℕ) → (has l.own e ≡ true) ↔ ((e < l.number) × IsOwnClass l.ontology e);
}
