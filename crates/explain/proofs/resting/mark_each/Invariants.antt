use Rattle.std.proofs.Common.{◌↔◌, ◌≡◌, ◌⊎◌, Contains, length, suc, take, ℕ}
use Rattle.explain.specs.Marks.{IsMarked}
use Rattle.explain.proofs.resting.mark_each.Given as goal

abbrev pub invariant-loop-number : goal.invariant-loop-number
invariant-loop-number l =
    (length l.marks ≡ length l.fn.marks)
    × ((n : ℕ) → IsMarked l.marks n ↔ (IsMarked l.fn.marks n ⊎ Contains (take l.number-index l.numbers) (suc n)))
