use Rattle.std.proofs.Common.{◌≡◌, drop}
use Rattle.std.specs.List.{list_all}
use Rattle.certificate.specs.Tests.{fits_line}
use Rattle.certificate.specs.View.{lines_of}
use Rattle.certificate.proofs.fitting.are_lines.Given as goal

abbrev pub invariant-loop-line : goal.invariant-loop-line
invariant-loop-line l = list_all (fits_line l.ontology) (lines_of (drop l.line-index l.lines)) ≡ list_all (fits_line l.ontology) (lines_of l.lines)
