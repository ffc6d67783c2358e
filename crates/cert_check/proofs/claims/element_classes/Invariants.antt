use Rattle.std.proofs.Common.{map, take}
use Rattle.certificate.specs.View.{class_row_of}
use Rattle.cert_check.specs.Lists.{AreElementClasses}
use Rattle.cert_check.proofs.claims.element_classes.Given as goal

abbrev pub invariant-loop-listed : goal.invariant-loop-listed
invariant-loop-listed l = AreElementClasses l.ontology l.domain (map class_row_of (take l.listed-index l.classes)) l.lists
