use Rattle.std.specs.Prelude.{◌≡◌, ◌-◌, ◌/◌, ◌%◌, ◌<◌}
use Rattle.keyed_hash.specs.Hasher.{mixed_blocks}
use Rattle.keyed_hash.proofs.hasher.state_after_blocks.Given as goal

abbrev pub invariant-loop-at : goal.invariant-loop-at
invariant-loop-at l = (l.at % 16 ≡ 0) × (l.at < l.len) × (l.state ≡ mixed_blocks l.bytes l.key l.initial.state (l.at / 16))

abbrev pub decreases-loop-at : goal.decreases-loop-at
decreases-loop-at l = l.len - l.at
