use Rattle.std.proofs.Common.{length, ◌+◌, ◌≡◌, ◌≤◌}
use Rattle.std.specs.Io.KnownBytes.{Consumes}
use Rattle.device.proofs.whole.read_all.Given as goal

abbrev pub invariant-loop-n : goal.invariant-loop-n
invariant-loop-n g l = record {
  whole : Consumes (g.S.Source.left l.fn.source) (g.S.Source.left l.source) l.bytes.items;
  fell : g.S.Source.most l.source + length l.bytes.items ≡ g.S.Source.most l.fn.source;
  small : length l.bytes.items ≤ l.limit;
  count : g.S.Source.failures l.source ≡ g.S.Source.failures l.fn.source;
}

abbrev pub decreases-loop-n : goal.decreases-loop-n
decreases-loop-n g l = g.S.Source.most l.source
