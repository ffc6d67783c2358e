use Rattle.std.proofs.Common.{ap₂, arith}
use Rattle.std.specs.Prelude.{bit_and}
use Rattle.std.proofs.lemmas.Nat.{and_le_r}
use Rattle.facts.specs.Slots.{bucket_of}
use Rattle.facts.proofs.slots.bucket.Goals as goal

pub returns-clause-value : goal.returns-clause-value
unfolding bucket_of
returns-clause-value c = ap₂ bit_and c.hash.ensures c.saturating_sub.ensures

pub returns-clause-within : goal.returns-clause-within
returns-clause-within c = omega (arith, and_le_r c.hash.result c.saturating_sub.result, c.saturating_sub.ensures)
