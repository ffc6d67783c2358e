use Rattle.std.proofs.Common.{◌≡◌}
use Rattle.certificate.proofs.Stepwise.{mapped_until}
use Rattle.narrowing.proofs.renumbering.renumber_elements.Given as goal

abbrev pub invariant-loop-element : goal.invariant-loop-element
invariant-loop-element g l = l.elements ≡ mapped_until (g.N.Numbering.number l.numbering) l.element-index l.fn.elements
