use Rattle.std.proofs.Common.{take}
use Rattle.short_names.specs.Found.{IsFound, pairs_of}
use Rattle.short_names.proofs.finding.short_name.Given as goal

-- by the prefixes so far
abbrev pub invariant-loop-prefix : goal.invariant-loop-prefix
invariant-loop-prefix l = IsFound (pairs_of (take l.prefix-index l.prefixes)) l.inside l.best
