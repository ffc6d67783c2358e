use Rattle.std.proofs.Common.{take}
use Rattle.cert_check.specs.Additions.{AddsPairs}
use Rattle.generated_part.specs.Part.{IsPairAt}
use Rattle.generated_part.proofs.part.put_pairs.Given as goal

abbrev pub invariant-loop-place : goal.invariant-loop-place
invariant-loop-place l = AddsPairs (IsPairAt l.pairs (take l.place l.chosen.elements.items) l.chosen.places.items) l.initial.part l.part
