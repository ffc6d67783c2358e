-- The text of a condition for a class: the axiom that states it, and its parts with whether something has them.
use Rattle.std.specs.Prelude.{ℕ, List, ◌++◌, Bool, true, false, codes}
use Rattle.std.specs.Fmt.{decimal}
use Rattle.axioms.specs.Ontology.{Ontology, expression}
use Rattle.answer_texts.specs.Names.{line_feed, expression_text}

-- a line for the axiom, as axiom 4
abbrev pub axiom_number_line : ℕ → List ℕ
axiom_number_line number = codes "axiom " ++ decimal number ++ line_feed

-- the word for whether something has it
abbrev pub having_word : (has : Bool) → List ℕ
having_word true = codes "has "
having_word false = codes "lacks "

-- a line for the part of that number, as has <x:A> or lacks <x:A>
abbrev pub part_line : Ontology → (has : Bool) → (part : ℕ) → List ℕ
part_line o has part = having_word has ++ expression_text (expression o part) ++ line_feed
