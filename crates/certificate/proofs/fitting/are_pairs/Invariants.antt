use Rattle.std.proofs.Common.{◌≡◌, drop, map, None}
use Rattle.certificate.specs.Tests.{fit_pairs}
use Rattle.certificate.specs.View.{pair_row_of}
use Rattle.certificate.proofs.fitting.are_pairs.Given as goal

abbrev pub invariant-loop-row : goal.invariant-loop-row
invariant-loop-row l = fit_pairs l.ontology l.domain l.last (map pair_row_of (drop l.row-index l.rows)) ≡ fit_pairs l.ontology l.domain None (map pair_row_of l.rows)
