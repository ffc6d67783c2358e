use Rattle.std.proofs.Common.{refl}
use Rattle.keyed_hash.specs.Hasher.{folded_product}
use Rattle.keyed_hash.proofs.numbers.folded_product.Goals as goal

pub returns : goal.returns
unfolding folded_product
returns c = refl
