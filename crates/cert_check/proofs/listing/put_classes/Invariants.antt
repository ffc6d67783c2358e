use Rattle.std.proofs.Common.{map, take}
use Rattle.certificate.specs.View.{class_row_of}
use Rattle.cert_check.specs.Additions.{AddsMembers, IsListedMember}
use Rattle.cert_check.proofs.listing.put_classes.Given as goal

abbrev pub invariant-loop-row : goal.invariant-loop-row
invariant-loop-row l = AddsMembers (IsListedMember l.ontology (map class_row_of (take l.row-index l.rows))) l.initial.interpretation l.interpretation
