use Rattle.std.proofs.Common.{take}
use Rattle.cert_check.specs.Additions.{AddsPairs}
use Rattle.generated_part.proofs.Parts.{PutsPairs}
use Rattle.generated_part.proofs.part.put_pairs_of.Given as goal

abbrev pub invariant-loop-pair : goal.invariant-loop-pair
invariant-loop-pair l = AddsPairs (PutsPairs l.source (take l.pair-index l.pairs) l.places) l.initial.part l.part
