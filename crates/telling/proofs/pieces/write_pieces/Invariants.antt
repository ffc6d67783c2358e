use Rattle.std.proofs.Common.{◌≡◌, take}
use Rattle.std.specs.Io.KnownBytes.{Appends}
use Rattle.std.specs.List.{flat_map}
use Rattle.telling.proofs.pieces.write_pieces.Given as goal

abbrev pub invariant-loop-piece : goal.invariant-loop-piece
invariant-loop-piece g l = record {
  taken : Appends (g.W.Sink.taken l.fn.sink) (g.W.Sink.taken l.sink) (flat_map (λ p. p.now) (take l.piece-index l.pieces));
  count : g.W.Sink.failures l.sink ≡ g.W.Sink.failures l.fn.sink;
}
