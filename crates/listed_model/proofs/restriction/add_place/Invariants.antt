use Rattle.std.proofs.Common.{ℕ, ◌<◌, ◌≡◌, ◌++◌, length, take}
use Rattle.number_sets.specs.Pieces.{list_at}
use Rattle.number_sets.specs.Transposition.{copies}
use Rattle.listed_model.proofs.restriction.add_place.Given as goal

abbrev pub invariant-loop-target : goal.invariant-loop-target
invariant-loop-target l = record {
  long : length l.lists ≡ length l.fn.lists;
  each : (y : ℕ) → y < length l.fn.lists → list_at l.lists y ≡ list_at l.fn.lists y ++ copies l.place y (take l.target-index l.targets);
}
