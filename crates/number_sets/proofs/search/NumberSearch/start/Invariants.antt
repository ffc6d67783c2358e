use Rattle.std.proofs.Common.{◌≡◌, take}
use Rattle.number_sets.specs.Search.{search_of, with_starts}
use Rattle.number_sets.proofs.search.NumberSearch.start.Given as goal

abbrev pub invariant-loop-start : goal.invariant-loop-start
invariant-loop-start g l =
    search_of l.self ≡ with_starts g.F.Found.number (search_of l.initial.self) (take l.start-index l.starts)
