use Rattle.std.proofs.Common.{◌≡◌, take}
use Rattle.number_sets.specs.Search.{search_of, with_starts}
use Rattle.answer_texts.proofs.reach.add_all.Given as goal

abbrev pub invariant-loop-element : goal.invariant-loop-element
invariant-loop-element l = search_of l.search ≡ with_starts (λ x. x) (search_of l.initial.search) (take l.element-index l.elements)
