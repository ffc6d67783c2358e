use Rattle.std.proofs.Common.{length}
use Rattle.std.proofs.lemmas.Bool.{le-leb, lt-leb, lt-ltb, le-ltb}
use Rattle.keyed_hash.specs.Hasher.{few_bytes}
use Rattle.keyed_hash.proofs.numbers.few_bytes.Goals as goal

pub returns-then-len-ge4 : goal.returns-then-len-ge4
unfolding few_bytes
returns-then-len-ge4 c = rw (c.four_bytes.ensures, c.four_bytes-then-len-ge4.ensures, le-leb 4 (length c.args.bytes.now) c.if-len-ge4.true)

pub returns-then-len-gt0 : goal.returns-then-len-gt0
unfolding few_bytes
returns-then-len-gt0 c = rw (lt-leb 4 (length c.args.bytes.now) c.if-len-ge4.false, lt-ltb 0 (length c.args.bytes.now) c.if-len-gt0.true)

pub returns-else-len-gt0 : goal.returns-else-len-gt0
unfolding few_bytes
returns-else-len-gt0 c = rw (lt-leb 4 (length c.args.bytes.now) c.if-len-ge4.false, le-ltb 0 (length c.args.bytes.now) c.if-len-gt0.false)
