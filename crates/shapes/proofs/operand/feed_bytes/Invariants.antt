use Rattle.std.proofs.Common.{◌≡◌, drop, fold}
use Rattle.shapes.specs.HashInput.{name_writes}
use Rattle.shapes.proofs.operand.feed_bytes.Given as goal

abbrev pub invariant-loop-byte : goal.invariant-loop-byte
invariant-loop-byte g l = fold g.H.Hasher.write l.state (name_writes (drop l.byte-index l.bytes)) ≡ fold g.H.Hasher.write l.initial.state (name_writes l.bytes)
