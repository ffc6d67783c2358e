use Rattle.std.proofs.Common.{◌≡◌, ◌<◌, ◌||◌, ℕ, length, take}
use Rattle.std.specs.List.{list_any}
use Rattle.number_sets.specs.Members.{has}
use Rattle.taxonomy.specs.Relation.{is_listed}
use Rattle.taxonomy.specs.Texts.{is_strictly_above}
use Rattle.taxonomy.specs.ClassMarks.{AreUpwardClosed, HasRoom}
use Rattle.taxonomy.proofs.least.mark_each.Given as goal

abbrev pub invariant-loop-c : goal.invariant-loop-c
invariant-loop-c l = record {
  room : HasRoom (length l.classes) l.marks;
  closed : AreUpwardClosed l.classes l.marks;
  strictly : (k : ℕ) → k < length l.classes → has l.marks.strictly k ≡ (has l.fn.marks.strictly k || list_any (λ c. is_strictly_above (is_listed l.classes) c k) (take l.c-index l.numbers));
}
