use Rattle.std.proofs.Common.{false, length, ap, arith}
use Rattle.std.proofs.lemmas.List.{length-replicate}
use Rattle.saturate.proofs.asked_facts.flags_of_asked.Goals as goal

pub flag_asked-flagged-requires-clause-below : goal.flag_asked-flagged-requires-clause-below
flag_asked-flagged-requires-clause-below c = λ x n listed. omega (arith, c.requires.below x n listed, ap length c.in_ok-flags.ensures, length-replicate c.len.result false, c.len.ensures.value)

pub returns-in-Ok-clause-flags : goal.returns-in-Ok-clause-flags
returns-in-Ok-clause-flags c = rw (c.in_ok-added.ensures.forms, c.in_ok-added.ensures.apart) at c.in-Ok.ensures.ok
