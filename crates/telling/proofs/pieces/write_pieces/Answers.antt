use Rattle.std.proofs.Common.{◌+◌, take, drop}
use Rattle.std.specs.List.{flat_map}
use Rattle.telling.proofs.Joined.{begun, split, failed}
use Rattle.telling.proofs.pieces.write_pieces.Goals as goal

pub returns-in-Err-clause-begun : goal.returns-in-Err-clause-begun
returns-in-Err-clause-begun g c =
    let pieces = c.args.pieces.now in
    let i = c.loop-piece.piece-index in
    (begun _ _ _ (flat_map (λ p. p.now) (take i pieces)) _ (flat_map (λ p. p.now) (drop (i + 1) pieces)) (flat_map (λ p. p.now) pieces) (split (λ p. p.now) pieces i _ c.loop-piece-test.true) c.loop-piece.invariant.taken c.in-Err.ensures.begun, failed _ _ _ c.loop-piece.invariant.count c.in-Err.ensures.failed)
