use Rattle.std.proofs.Common.{◌++◌, ℕ, List, length}
use Rattle.short_names.specs.Found.{pairs_of}
use Rattle.short_names.specs.ShortNames.{IsShortened}
use Rattle.short_names.proofs.shortening.shortened_by.Given as goal

-- whatever the rest is shortened to, stands behind what is there
abbrev pub invariant-loop-cut : goal.invariant-loop-cut
invariant-loop-cut l = (short : List ℕ) → IsShortened (pairs_of l.prefixes) (λ iri. iri) l.rest short → IsShortened (pairs_of l.prefixes) (λ iri. iri) l.text (l.out.items ++ short)

abbrev pub decreases-loop-cut : goal.decreases-loop-cut
decreases-loop-cut l = length l.rest
