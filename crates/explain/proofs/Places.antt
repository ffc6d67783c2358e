-- Where numbers stand among what was reached.
use Rattle.std.proofs.Common.{ℕ, ◌<◌, List, length}
use Rattle.std.proofs.lemmas.Option.{slice_get_within}
use Rattle.explain.specs.declared.reached.Reached.{Reached}
use Rattle.explain.specs.Search.{StandsAt}

pub stands_within : (found : List Reached) (d k : ℕ) → StandsAt found d k → k < length found
stands_within found d k s = slice_get_within found k s.0 s.1
