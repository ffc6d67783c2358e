use Rattle.std.proofs.Common.{◌≡◌, ◌++◌, take}
use Rattle.std.specs.List.{flat_map}
use Rattle.answer_texts.specs.Refutation as text
use Rattle.answer_texts.proofs.refutation.push_classes.Given as goal

abbrev pub invariant-loop-number : goal.invariant-loop-number
invariant-loop-number l = l.out.items ≡ l.fn.out.items ++ flat_map (text.class_text l.ontology.names l.told.interpretation.now l.told.elements.items) (take l.number-index l.number-items)
