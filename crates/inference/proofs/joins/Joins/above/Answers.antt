use Rattle.std.proofs.Common.{ℕ, slice_get, sym, ap, ◌∙◌}
use Rattle.inference.specs.Marks.{HasAbove}
use Rattle.inference.proofs.Marking.{all_bits, told}
use Rattle.inference.proofs.joins.Joins.above.Goals as goal

pub returns-in-Property : goal.returns-in-Property
returns-in-Property c = λ forms are.
    rw c.in-Property.is
    (told (λ (mask : ℕ). HasAbove forms mask _) (slice_get c.deref.result.now c.in-Property.field-0.0) c.mask_at.result c.mask_at.ensures.there c.mask_at.ensures.none
    (λ mask at. are.above c.in-Property.field-0.0 mask (ap (λ l. slice_get l c.in-Property.field-0.0) (sym c.deref.ensures.value) ∙ at))
    (λ r at. all_bits r))

pub returns-in-Partial : goal.returns-in-Partial
returns-in-Partial c = λ forms are. λ r at. all_bits r
