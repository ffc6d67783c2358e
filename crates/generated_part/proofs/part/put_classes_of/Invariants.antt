use Rattle.std.proofs.Common.{take}
use Rattle.cert_check.specs.Additions.{AddsMembers}
use Rattle.generated_part.proofs.Parts.{PutsClasses}
use Rattle.generated_part.proofs.part.put_classes_of.Given as goal

abbrev pub invariant-loop-class : goal.invariant-loop-class
invariant-loop-class l = AddsMembers (PutsClasses l.element (take l.class-index l.classes)) l.initial.part l.part
