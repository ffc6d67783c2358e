-- Which elements a text tells of.
use Rattle.std.specs.Prelude.{ℕ, List, Bool, Option, Some, None}
use Rattle.interpretation_spec.specs.NumberedInterpretation.{NumberedInterpretation}
use Rattle.answer_texts.specs.Pairs.{all_elements}
use Rattle.answer_texts.specs.Reached.{elements_in}

-- those of the set, or all where there is none
abbrev pub told_elements : NumberedInterpretation → Option (List Bool) → List ℕ
told_elements i None = all_elements i
told_elements i (Some reached) = elements_in i reached
