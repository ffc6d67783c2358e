use Rattle.std.proofs.Common.{◌≡◌, ◌++◌, map, take}
use Rattle.std.specs.List.{flat_map}
use Rattle.std.specs.String.{string_bytes}
use Rattle.axioms.specs.Ontology.{name_at}
use Rattle.answer_texts.specs.Graphs as graphs
use Rattle.answer_texts.proofs.graph_of_refutation.push_names.Given as goal

abbrev pub invariant-loop-number : goal.invariant-loop-number
invariant-loop-number l =
    l.out.items ≡ l.fn.out.items ++ flat_map (λ n. l.before ++ graphs.escaped_name (name_at (map string_bytes l.names) n)) (take l.number-index l.numbers)
