use Rattle.std.proofs.Common.{◌≡◌, ◌<◌, ℕ, length, take, eqb, ◌&&◌, ◌||◌}
use Rattle.std.specs.Prelude.{◌==◌}
use Rattle.std.specs.List.{list_any}
use Rattle.number_sets.specs.Members.{has}
use Rattle.number_sets.specs.Pieces.{list_at}
use Rattle.taxonomy.proofs.groups.mark_group.Given as goal

abbrev pub invariant-loop-h : goal.invariant-loop-h
invariant-loop-h l = record {
  long : length l.set ≡ length l.fn.set;
  each : (k : ℕ) → k < length l.fn.set → has l.set k ≡ (has l.fn.set k || list_any (λ x. eqb (length (list_at l.classes x)) l.size && (x == k)) (take l.h-index l.h-items));
}
