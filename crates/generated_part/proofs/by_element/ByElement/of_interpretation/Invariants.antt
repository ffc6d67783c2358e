use Rattle.std.proofs.Common.{◌≡◌, ℕ, ◌<◌, length}
use Rattle.generated_part.specs.Elements.{AreClassesAt, ArePairsAt}
use Rattle.number_sets.specs.Pieces.{list_at}
use Rattle.generated_part.proofs.by_element.ByElement.of_interpretation.Given as goal

abbrev pub invariant-loop-element : goal.invariant-loop-element
invariant-loop-element l = record {
  classes_long : length l.classes ≡ l.element;
  pairs_long : length l.pairs ≡ l.element;
  classes : (x : ℕ) → x < l.element → AreClassesAt l.interpretation l.named x (list_at l.classes x);
  pairs : (x : ℕ) → x < l.element → ArePairsAt l.interpretation l.properties x (list_at l.pairs x);
}
