use Rattle.std.proofs.Common.{◌≡◌, take, Contains}
use Rattle.certificate.specs.View.{targets_in}
use Rattle.cert_check.specs.Additions.{AddsPairs}
use Rattle.cert_check.proofs.listing.put_targets.Given as goal

abbrev pub invariant-loop-target : goal.invariant-loop-target
invariant-loop-target l = AddsPairs (λ r x y. (l.row.property.0 ≡ r) × (l.row.source ≡ x) × Contains (take l.target-index (targets_in l.row.targets)) y) l.initial.interpretation l.interpretation
