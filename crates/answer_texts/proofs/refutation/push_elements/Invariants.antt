use Rattle.std.proofs.Common.{◌≡◌, ◌++◌, take}
use Rattle.answer_texts.specs.Names.{spaced_numbers}
use Rattle.answer_texts.proofs.refutation.push_elements.Given as goal

abbrev pub invariant-loop-element : goal.invariant-loop-element
invariant-loop-element l = l.out.items ≡ l.fn.out.items ++ spaced_numbers (take l.element-index l.elements)
