-- Answers as graphs, in the DOT language of Graphviz: each text is one statement a line.
use Rattle.std.specs.Prelude.{ℕ, List, [], ◌∷◌, ◌++◌, ◌-◌, if◌then◌else◌, ◌==◌, length, codes}
use Rattle.std.specs.List.{flat_map, range_with_len, enumerate_from}
use Rattle.std.specs.Fmt.{decimal}
use Rattle.axioms.specs.Ontology.{Ontology, Names, name_at}
use Rattle.certificate.specs.Certificate.{Line}
use Rattle.interpretation_spec.specs.NumberedInterpretation.{NumberedInterpretation, members_of}
use Rattle.number_sets.specs.Members.{has}
use Rattle.answer_texts.specs.Pairs.{all_elements, pairs_of}
use Rattle.answer_texts.specs.Proof.{numbered_text}

-- a byte inside quotation marks: a quotation mark, a backslash and an ampersand have a meaning there
abbrev pub escaped_byte : ℕ → List ℕ
escaped_byte b = if b == 34 then codes "\\\"" else (if b == 92 then codes "\\\\" else (if b == 38 then codes "&amp;" else b ∷ []))

abbrev pub escaped : List ℕ → List ℕ
escaped bytes = flat_map escaped_byte bytes

-- ---- a derivation: a node for each line, and an edge to it from each premise

abbrev pub line_node : Ontology → ℕ × Line → List ℕ
line_node o (n, line) = codes "  " ++ decimal n ++ codes " [label=\"" ++ escaped (numbered_text o (n, line)) ++ codes "\"];\n"

-- as 1 -> 2
abbrev pub premise_edge : ℕ → ℕ → List ℕ
premise_edge n m = codes "  " ++ decimal m ++ codes " -> " ++ decimal n ++ codes ";\n"

abbrev pub line_graph : Ontology → ℕ × Line → List ℕ
line_graph o (n, line) = line_node o (n, line) ++ flat_map (premise_edge n) line.premises

abbrev pub proof_graph : Ontology → List Line → List ℕ
proof_graph o lines =
    codes "digraph derivation {\n  node [shape=box];\n" ++ flat_map (line_graph o) (enumerate_from 1 lines) ++ codes "}\n"

-- ---- a refutation: a node for each element, and an edge for each pair

-- a name in angle brackets
abbrev pub escaped_name : List ℕ → List ℕ
escaped_name name = codes "<" ++ escaped name ++ codes ">"

-- the name of a class, and of an individual
abbrev pub class_label : Names → ℕ → List ℕ
class_label names c = codes "\\n" ++ escaped_name (name_at names.classes c)

abbrev pub individual_label : Names → ℕ → List ℕ
individual_label names a = codes "\\nindividual " ++ escaped_name (name_at names.individuals a)

-- the name of the class, where the element is in it
abbrev pub class_line : Names → NumberedInterpretation → ℕ → ℕ → List ℕ
class_line names i x c = if has (members_of i c) x then class_label names c else []

-- the name of the individual, where the element is it
abbrev pub individual_line : Names → ℕ → ℕ × ℕ → List ℕ
individual_line names x (a, y) = if y == x then individual_label names a else []

-- all of both but owl:Thing, by their numbers
abbrev pub element_labels : Names → NumberedInterpretation → ℕ → List ℕ
element_labels names i x =
    flat_map (class_line names i x) (range_with_len 1 (length names.classes - 1)) ++ flat_map (individual_line names x) (enumerate_from 0 i.individuals)

-- the element that refutes has two outlines
abbrev pub outlines : ℕ → ℕ → List ℕ
outlines refuting x = if x == refuting then codes ", peripheries=2" else []

abbrev pub element_node : Names → NumberedInterpretation → ℕ → ℕ → List ℕ
element_node names i refuting x =
    codes "  " ++ decimal x ++ codes " [label=\"" ++ decimal x ++ element_labels names i x ++ codes "\"" ++ outlines refuting x ++ codes "];\n"

abbrev pub pair_edge : List ℕ → ℕ → ℕ → List ℕ
pair_edge name x y = codes "  " ++ decimal x ++ codes " -> " ++ decimal y ++ codes " [label=\"" ++ escaped_name name ++ codes "\"];\n"

abbrev pub graph_head : List ℕ
graph_head = codes "digraph refutation {\n  node [shape=ellipse];\n"

-- these elements and the pairs that begin at them, to the end
abbrev pub drawn : Names → NumberedInterpretation → (elements : List ℕ) → ℕ → List ℕ
drawn names i elements x = flat_map (element_node names i x) elements ++ pairs_of pair_edge names i elements ++ codes "}\n"

abbrev pub refutation_graph : Names → NumberedInterpretation → ℕ → List ℕ
refutation_graph names i x = graph_head ++ drawn names i (all_elements i) x
