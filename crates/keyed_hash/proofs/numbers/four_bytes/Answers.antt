use Rattle.keyed_hash.specs.Hasher.{four_bytes}
use Rattle.keyed_hash.proofs.numbers.four_bytes.Goals as goal

pub returns : goal.returns
unfolding four_bytes
returns c = c.from_le_bytes.ensures
