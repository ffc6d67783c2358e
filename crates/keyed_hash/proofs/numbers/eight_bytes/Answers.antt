use Rattle.keyed_hash.specs.Hasher.{eight_bytes}
use Rattle.keyed_hash.proofs.numbers.eight_bytes.Goals as goal

pub returns : goal.returns
unfolding eight_bytes
returns c = c.from_le_bytes.ensures
