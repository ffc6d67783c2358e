use Rattle.std.proofs.Common.{ℕ, ◌<◌, ◌≡◌, length, take}
use Rattle.interpretation_spec.specs.NumberedInterpretation.{members_of}
use Rattle.number_sets.specs.Members.{has}
use Rattle.number_sets.specs.Pieces.{list_at}
use Rattle.answer_texts.specs.Labels.{numbers_of}
use Rattle.answer_texts.proofs.labels.classes_by_element.Given as goal

abbrev pub invariant-loop-number : goal.invariant-loop-number
invariant-loop-number l = record {
  long : length l.lists ≡ l.interpretation.size;
  each : (x : ℕ) → x < l.interpretation.size → list_at l.lists x ≡ numbers_of (λ c. has (members_of l.interpretation c) x) (λ c. c) (take l.number-index l.number-items);
}
