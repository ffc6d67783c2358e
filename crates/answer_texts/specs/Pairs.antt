-- The pairs of an interpretation in a text that tells each by the name of its property, its source and its target.
use Rattle.std.specs.Prelude.{ℕ, List, length}
use Rattle.std.specs.List.{flat_map, range_with_len}
use Rattle.axioms.specs.Ontology.{Names, name_at}
use Rattle.interpretation_spec.specs.NumberedInterpretation.{NumberedInterpretation, targets_of}

-- all elements
abbrev pub all_elements : NumberedInterpretation → List ℕ
all_elements i = range_with_len 0 i.size

-- the pairs of a property that begin at an element
abbrev pub source_pairs : (List ℕ → ℕ → ℕ → List ℕ) → Names → NumberedInterpretation → ℕ → ℕ → List ℕ
source_pairs pair names i r x = flat_map (pair (name_at names.properties r) x) (targets_of i r x)

-- those that begin at one of these elements
abbrev pub property_pairs : (List ℕ → ℕ → ℕ → List ℕ) → Names → NumberedInterpretation → (elements : List ℕ) → ℕ → List ℕ
property_pairs pair names i elements r = flat_map (source_pairs pair names i r) elements

-- those of all properties, by their numbers
abbrev pub pairs_of : (List ℕ → ℕ → ℕ → List ℕ) → Names → NumberedInterpretation → (elements : List ℕ) → List ℕ
pairs_of pair names i elements = flat_map (property_pairs pair names i elements) (range_with_len 0 (length names.properties))
