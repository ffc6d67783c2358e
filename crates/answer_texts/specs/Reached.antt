-- Texts of a refutation that tell of its elements those alone that pairs lead to from the one that refutes.
use Rattle.std.specs.Prelude.{◌≡◌, ◌↔◌, ◌<◌, ◌-◌, ◌++◌, ℕ, List, [], Bool, true, if◌then◌else◌, length, codes}
use Rattle.std.specs.List.{Contains, filter, flat_map, range_with_len, enumerate_from}
use Rattle.std.specs.Fmt.{decimal}
use Rattle.axioms.specs.Ontology.{Names}
use Rattle.interpretation_spec.specs.NumberedInterpretation.{NumberedInterpretation, targets_of}
use Rattle.number_sets.specs.Members.{has}
use Rattle.answer_texts.specs.Graphs.{drawn, graph_head}
use Rattle.answer_texts.specs.Names.{line_feed}
use Rattle.answer_texts.specs.Pairs.{all_elements}
use Rattle.answer_texts.specs.Refutation.{element_text, individual_text, rows_text}

-- the element itself, and each to which a pair leads from one that is reached
pub data IsReached (i : NumberedInterpretation) (from : ℕ) : ℕ → Type 0 where
  itself : from < i.size → IsReached i from from
  onward : {y : ℕ} (r x : ℕ) → IsReached i from x → Contains (targets_of i r x) y → IsReached i from y

-- the targets of an element by the first n properties
abbrev pub all_targets : NumberedInterpretation → (n : ℕ) → ℕ → List ℕ
all_targets i n x = flat_map (λ r. targets_of i r x) (range_with_len 0 n)

-- the elements that are in the set
abbrev pub elements_in : NumberedInterpretation → List Bool → List ℕ
elements_in i reached = filter (has reached) (all_elements i)

-- the line of the individual, where its element is in the set
abbrev pub individual_in : Names → List Bool → ℕ × ℕ → List ℕ
individual_in names reached (a, x) = if has reached x then individual_text names (a, x) else []

-- as others 2
abbrev pub others_text : ℕ → List ℕ
others_text n = codes "others " ++ decimal n ++ line_feed

-- what a refutation says of the elements in the set, in the same order and with the same numbers, and how many others there are
abbrev pub reached_text : Names → NumberedInterpretation → (reached : List Bool) → ℕ → List ℕ
reached_text names i reached x =
    rows_text names i (elements_in i reached) ++ flat_map (individual_in names reached) (enumerate_from 0 i.individuals)
    ++ element_text x ++ others_text (i.size - length (elements_in i reached))

-- a graph has it as its label
abbrev pub others_label : ℕ → List ℕ
others_label n = codes "  label=\"others " ++ decimal n ++ codes "\";\n"

-- the same as a graph
abbrev pub reached_graph : Names → NumberedInterpretation → (reached : List Bool) → ℕ → List ℕ
reached_graph names i reached x =
    graph_head ++ others_label (i.size - length (elements_in i reached)) ++ drawn names i (elements_in i reached) x

-- the text is what is told of exactly the elements that are reached from this one
pub record IsOfReached (i : NumberedInterpretation) (x : ℕ) (told : List Bool → List ℕ) (text : List ℕ) : Type 0 where
  pub reached : List Bool
  pub exactly : (y : ℕ) → (has reached y ≡ true) ↔ IsReached i x y
  pub is : text ≡ told reached
