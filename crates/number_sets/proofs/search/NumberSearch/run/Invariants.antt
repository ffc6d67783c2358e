use Rattle.number_sets.specs.Search.{search_of}
use Rattle.number_sets.proofs.Searching.{IsSearchFrom}
use Rattle.number_sets.proofs.search.NumberSearch.run.Given as goal

abbrev pub invariant-loop-next : goal.invariant-loop-next
invariant-loop-next g l =
    IsSearchFrom g.F.Found.number g.F.Found.target g.F.Found.by l.starts l.lists l.next (search_of l.self)
