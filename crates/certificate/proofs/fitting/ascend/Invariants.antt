use Rattle.std.proofs.Common.{◌≡◌, drop, None}
use Rattle.certificate.specs.Tests.{ascend}
use Rattle.certificate.proofs.fitting.ascend.Given as goal

abbrev pub invariant-loop-element : goal.invariant-loop-element
invariant-loop-element l = ascend l.domain l.last (drop l.element-index l.elements) ≡ ascend l.domain None l.elements
