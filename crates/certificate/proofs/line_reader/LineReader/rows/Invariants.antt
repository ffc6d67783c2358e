use Rattle.std.proofs.Common.{◌≤◌, ◌+◌, length}
use Rattle.source_lines.specs.Sources.{source_state}
use Rattle.certificate.specs.SourceReading.{AreRowsNext}
use Rattle.certificate.specs.View.{listing_of}
use Rattle.certificate.proofs.line_reader.LineReader.rows.Given as goal

abbrev pub invariant-loop-self : goal.invariant-loop-self
invariant-loop-self g l = record {
  read : AreRowsNext l.fn.self l.self (source_state g.S.Source l.fn.source) (source_state g.S.Source l.source) (listing_of l.fn.listed) (listing_of l.listed);
  count : g.S.Source.failures l.fn.source ≤ g.S.Source.failures l.source;
}

abbrev pub decreases-loop-self : goal.decreases-loop-self
decreases-loop-self g l = g.S.Source.most l.source + length l.self.hand.line + length l.self.hand.ahead
