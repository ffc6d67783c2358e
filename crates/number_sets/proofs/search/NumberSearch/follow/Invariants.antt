use Rattle.std.proofs.Common.{◌≡◌, take}
use Rattle.number_sets.specs.Search.{search_of, with_steps}
use Rattle.number_sets.proofs.search.NumberSearch.follow.Given as goal

abbrev pub invariant-loop-step : goal.invariant-loop-step
invariant-loop-step g l =
    search_of l.self ≡ with_steps g.F.Found.number g.F.Found.by l.place (search_of l.initial.self) (take l.step-index l.steps)
