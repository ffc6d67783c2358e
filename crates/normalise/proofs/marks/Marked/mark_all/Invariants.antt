use Rattle.std.proofs.Common.{◌≡◌}
use Rattle.axioms.specs.View.{expr_numbers}
use Rattle.normalise.specs.Marks.{MarksMore, EachOf}
use Rattle.normalise.proofs.marks.Marked.mark_all.Given as goal

abbrev pub invariant-loop-id : goal.invariant-loop-id
invariant-loop-id l = MarksMore l.initial.self l.self (EachOf (expr_numbers l.ids) (λ x e. e ≡ x) l.id-index)
