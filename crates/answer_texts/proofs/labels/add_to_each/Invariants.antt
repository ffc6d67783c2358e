use Rattle.std.proofs.Common.{ℕ, ◌<◌, ◌≡◌, ◌++◌, length, take}
use Rattle.number_sets.specs.Pieces.{list_at}
use Rattle.number_sets.specs.Transposition.{copies}
use Rattle.answer_texts.proofs.labels.add_to_each.Given as goal

abbrev pub invariant-loop-element : goal.invariant-loop-element
invariant-loop-element l = record {
  long : length l.lists ≡ length l.fn.lists;
  each : (x : ℕ) → x < length l.fn.lists → list_at l.lists x ≡ list_at l.fn.lists x ++ copies l.number x (take l.element-index l.elements);
}
