use Rattle.std.proofs.Common.{◌≡◌, take}
use Rattle.std.specs.List.{filter}
use Rattle.interpretation_spec.specs.NumberedInterpretation.{members_of}
use Rattle.number_sets.specs.Members.{has}
use Rattle.answer_texts.proofs.refutation.tested_elements.Given as goal

abbrev pub invariant-loop-element : goal.invariant-loop-element
invariant-loop-element l = l.members.items ≡ filter (has (members_of l.interpretation l.class.0)) (take l.element-index l.elements)
