use Rattle.std.proofs.Common.{◌≡◌}
use Rattle.std.specs.List.{range_with_len, filter}
use Rattle.number_sets.specs.Members.{has}
use Rattle.answer_texts.proofs.looking.elements_in.Given as goal

abbrev pub invariant-loop-element : goal.invariant-loop-element
invariant-loop-element l = l.elements.items ≡ filter (has l.set) (range_with_len 0 l.element)
