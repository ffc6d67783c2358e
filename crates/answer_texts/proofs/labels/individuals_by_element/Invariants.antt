use Rattle.std.proofs.Common.{ℕ, ◌≡◌, length, take}
use Rattle.number_sets.specs.Pieces.{list_at}
use Rattle.answer_texts.specs.Labels.{individuals_at}
use Rattle.answer_texts.proofs.labels.individuals_by_element.Given as goal

abbrev pub invariant-loop-number : goal.invariant-loop-number
invariant-loop-number l = record {
  long : length l.lists ≡ l.interpretation.size;
  each : (x : ℕ) → list_at l.lists x ≡ individuals_at (take l.number l.interpretation.individuals) x;
}
