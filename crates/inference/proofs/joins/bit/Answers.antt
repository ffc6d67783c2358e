use Rattle.std.proofs.Common.{refl}
use Rattle.inference.proofs.Marking.{bit_alone}
use Rattle.inference.proofs.joins.bit.Goals.{in-Property, in-Partial}
use Rattle.inference.proofs.joins.bit.Goals as goal

pub returns : goal.returns
returns c =
    elim c.match-property.branch [
      | in-Property w ↦ bit_alone c.args.property _ (rw (w.number-is, w.in-Property.is) refl)
      | in-Partial w ↦ bit_alone c.args.property _ (rw (w.number-is, w.in-Partial.is) refl)
    ]
