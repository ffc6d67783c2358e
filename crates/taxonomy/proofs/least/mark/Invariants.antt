use Rattle.std.proofs.Common.{◌≡◌, ◌<◌, ℕ, length, take, ltb, ◌&&◌, ◌||◌}
use Rattle.std.specs.Prelude.{◌==◌}
use Rattle.std.specs.List.{list_any}
use Rattle.number_sets.specs.Members.{has}
use Rattle.number_sets.specs.Pieces.{list_at}
use Rattle.taxonomy.specs.ClassMarks.{HasRoom}
use Rattle.taxonomy.proofs.least.mark.Given as goal

abbrev pub invariant-loop-h : goal.invariant-loop-h
invariant-loop-h l = record {
  room : HasRoom (length l.classes) l.marks;
  above : (k : ℕ) → k < length l.classes → has l.marks.above k ≡ (has l.fn.marks.above k || list_any (λ x. x == k) (take l.h-index l.h-items));
  strictly : (k : ℕ) → k < length l.classes → has l.marks.strictly k ≡ (has l.fn.marks.strictly k || list_any (λ x. ltb (length (list_at l.classes x)) l.size && (x == k)) (take l.h-index l.h-items));
}
