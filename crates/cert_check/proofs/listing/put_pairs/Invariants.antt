use Rattle.std.proofs.Common.{map, take}
use Rattle.certificate.specs.View.{pair_row_of}
use Rattle.cert_check.specs.Additions.{AddsPairs, IsListedPair}
use Rattle.cert_check.proofs.listing.put_pairs.Given as goal

abbrev pub invariant-loop-row : goal.invariant-loop-row
invariant-loop-row l = AddsPairs (IsListedPair (map pair_row_of (take l.row-index l.rows))) l.initial.interpretation l.interpretation
