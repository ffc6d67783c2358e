use Rattle.std.proofs.Common.{length}
use Rattle.std.proofs.lemmas.Bool.{le-leb, lt-leb}
use Rattle.keyed_hash.specs.Hasher.{write}
use Rattle.keyed_hash.proofs.hasher.KeyedHasherHasher.write.Goals as goal

pub returns-then-len-gt8 : goal.returns-then-len-gt8
unfolding write
returns-then-len-gt8 c = rw (c.state_after_blocks-self.ensures, lt-leb (length c.args.bytes.now) 8 c.if-len-gt8.true)

pub returns : goal.returns
unfolding write
returns c = rw (c.folded_product-self.ensures, c.few_bytes.ensures, le-leb (length c.args.bytes.now) 8 c.if-len-gt8.false)
