use Rattle.std.proofs.Common.{take}
use Rattle.certificate.specs.View.{lines_of}
use Rattle.certificate.specs.Writability.{AreEarlier}
use Rattle.certificate_text.proofs.writing.first_later.Given as goal

abbrev pub invariant-loop-place : goal.invariant-loop-place
invariant-loop-place l = AreEarlier 1 (take l.place (lines_of l.lines))
