use Rattle.std.proofs.Common.{◌≤◌, List}
use Rattle.source_lines.specs.Sources.{source_state}
use Rattle.certificate.specs.Certificate as spec
use Rattle.cert_check.specs.Tests.{HaveCome}
use Rattle.cert_check.proofs.KeptLines.{AreKeptOf}
use Rattle.cert_check.proofs.LinesCome.{bytes_to_come}
use Rattle.cert_check.proofs.derivation.tested_lines.Given as goal

abbrev pub invariant-loop-premises : goal.invariant-loop-premises
invariant-loop-premises g l = record {
  lines : List spec.Line;
  come : HaveCome l.fn.reader l.reader (source_state g.S.Source l.fn.source) (source_state g.S.Source l.source) lines;
  kept : AreKeptOf l.fn.reader.most_premises l.tested l.ontology lines;
  count : g.S.Source.failures l.fn.source ≤ g.S.Source.failures l.source;
}

abbrev pub decreases-loop-premises : goal.decreases-loop-premises
decreases-loop-premises g l = bytes_to_come l.reader (source_state g.S.Source l.source)
