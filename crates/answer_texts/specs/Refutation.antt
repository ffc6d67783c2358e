-- The text of an interpretation and of one of its elements, which refute that something follows.
use Rattle.std.specs.Prelude.{ℕ, List, [], ◌∷◌, ◌++◌, ◌-◌, length, codes}
use Rattle.std.specs.List.{filter, flat_map, range_with_len, enumerate_from}
use Rattle.std.specs.Fmt.{decimal}
use Rattle.axioms.specs.Ontology.{Names, name_at}
use Rattle.interpretation_spec.specs.NumberedInterpretation.{NumberedInterpretation, members_of}
use Rattle.number_sets.specs.Members.{has}
use Rattle.answer_texts.specs.Names.{line_feed, name_text, spaced_numbers}
use Rattle.answer_texts.specs.Pairs.{all_elements, pairs_of}

-- those of the elements that are in the class of that number
abbrev pub elements_of : NumberedInterpretation → (elements : List ℕ) → ℕ → List ℕ
elements_of i elements c = filter (has (members_of i c)) elements

-- a line, where there are elements
abbrev pub members_text : List ℕ → List ℕ → List ℕ
members_text name [] = []
members_text name (x ∷ xs) = codes "class " ++ name_text name ++ spaced_numbers (x ∷ xs) ++ line_feed

-- as class <x:A> 0 1
abbrev pub class_text : Names → NumberedInterpretation → (elements : List ℕ) → ℕ → List ℕ
class_text names i elements c = members_text (name_at names.classes c) (elements_of i elements c)

-- as pair <x:r> 0 1
abbrev pub pair_text : List ℕ → ℕ → ℕ → List ℕ
pair_text name x y = codes "pair " ++ name_text name ++ spaced_numbers (x ∷ y ∷ []) ++ line_feed

-- as individual <x:a> 0
abbrev pub individual_text : Names → ℕ × ℕ → List ℕ
individual_text names (a, x) = codes "individual " ++ name_text (name_at names.individuals a) ++ spaced_numbers (x ∷ []) ++ line_feed

-- as element 0
abbrev pub element_text : ℕ → List ℕ
element_text x = codes "element " ++ decimal x ++ line_feed

-- the answer, the size, and of these elements the classes but owl:Thing and the pairs, by their numbers
abbrev pub rows_text : Names → NumberedInterpretation → (elements : List ℕ) → List ℕ
rows_text names i elements =
    codes "no" ++ line_feed ++ codes "domain " ++ decimal i.size ++ line_feed
    ++ flat_map (class_text names i elements) (range_with_len 1 (length names.classes - 1))
    ++ pairs_of pair_text names i elements

-- what is said of all elements, then the individuals by their numbers, and the element
abbrev pub refutation_text : Names → NumberedInterpretation → ℕ → List ℕ
refutation_text names i x =
    rows_text names i (all_elements i) ++ flat_map (individual_text names) (enumerate_from 0 i.individuals) ++ element_text x
