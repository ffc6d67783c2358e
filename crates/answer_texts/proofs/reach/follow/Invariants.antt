use Rattle.std.proofs.Common.{◌≡◌}
use Rattle.number_sets.specs.Search.{search_of, with_starts}
use Rattle.answer_texts.specs.Reached.{all_targets}
use Rattle.answer_texts.proofs.reach.follow.Given as goal

abbrev pub invariant-loop-number : goal.invariant-loop-number
invariant-loop-number l = search_of l.search ≡ with_starts (λ x. x) (search_of l.initial.search) (all_targets l.interpretation l.number l.element)
