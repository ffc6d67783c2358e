use Rattle.std.proofs.Common.{◌≡◌, ◌-◌, length, None}
use Rattle.source_lines.specs.Sources.{source_state}
use Rattle.certificate.specs.SourceReading.{HasLines}
use Rattle.certificate.specs.View.{lines_of}
use Rattle.certificate.proofs.reading.certificate_from.Given as goal

abbrev pub invariant-loop-lines : goal.invariant-loop-lines
invariant-loop-lines g l = record {
  read : HasLines (source_state g.S.Source l.fn.source) (lines_of l.lines.items) l.reader (source_state g.S.Source l.source);
  ontology : l.reader.ontology ≡ l.ontology;
  whole : l.reader.most_premises ≡ None;
}

abbrev pub decreases-loop-lines : goal.decreases-loop-lines
decreases-loop-lines g l = g.S.Source.most l.fn.source - length l.lines.items
