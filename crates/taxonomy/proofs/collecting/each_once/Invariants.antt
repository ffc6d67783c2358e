use Rattle.std.proofs.Common.{◌≡◌, ℕ, ◌<◌, length}
use Rattle.number_sets.specs.Pieces.{list_at}
use Rattle.taxonomy.specs.Superclasses.{IsSetOf}
use Rattle.taxonomy.proofs.collecting.each_once.Given as goal

abbrev pub invariant-loop-c : goal.invariant-loop-c
invariant-loop-c l = record {
  room : length l.seen ≡ length l.lists;
  long : length l.once ≡ l.c;
  each : (k : ℕ) → k < l.c → IsSetOf (length l.lists) (list_at l.lists k) (list_at l.once k);
}
