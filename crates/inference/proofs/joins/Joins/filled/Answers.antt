use Rattle.std.proofs.Common.{ℕ, slice_get, sym, ap, ◌∙◌}
use Rattle.inference.specs.Marks.{HasFilled}
use Rattle.inference.proofs.Marking.{all_filled, told}
use Rattle.inference.proofs.joins.Joins.filled.Goals as goal

pub returns-in-Expr : goal.returns-in-Expr
returns-in-Expr c = λ forms are.
    rw c.in-Expr.is
    (told (λ (mask : ℕ). HasFilled forms mask _) (slice_get c.deref.result.now c.in-Expr.field-0.0) c.mask_at.result c.mask_at.ensures.there c.mask_at.ensures.none
    (λ mask at. are.fillers.filled c.in-Expr.field-0.0 mask (ap (λ fillers. slice_get fillers.filled.items c.in-Expr.field-0.0) (sym c.as_ref.ensures) ∙ ap (λ l. slice_get l c.in-Expr.field-0.0) (sym c.deref.ensures.value) ∙ at))
    (all_filled forms _))

pub returns-in-Partial : goal.returns-in-Partial
returns-in-Partial c = λ forms are. all_filled forms _
