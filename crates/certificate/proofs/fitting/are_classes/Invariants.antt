use Rattle.std.proofs.Common.{◌≡◌, drop, map, None}
use Rattle.certificate.specs.Tests.{fit_classes}
use Rattle.certificate.specs.View.{class_row_of}
use Rattle.certificate.proofs.fitting.are_classes.Given as goal

abbrev pub invariant-loop-row : goal.invariant-loop-row
invariant-loop-row l = fit_classes l.ontology l.domain l.last (map class_row_of (drop l.row-index l.rows)) ≡ fit_classes l.ontology l.domain None (map class_row_of l.rows)
