use Rattle.std.proofs.Common.{take}
use Rattle.cert_check.specs.Additions.{AddsMembers}
use Rattle.generated_part.specs.Part.{IsMemberAt}
use Rattle.generated_part.proofs.part.put_classes.Given as goal

abbrev pub invariant-loop-place : goal.invariant-loop-place
invariant-loop-place l = AddsMembers (IsMemberAt l.classes (take l.place l.elements)) l.initial.part l.part
