use Rattle.std.proofs.Common.{◌≡◌, ◌++◌, take}
use Rattle.std.specs.List.{flat_map}
use Rattle.answer_texts.specs.Graphs as graphs
use Rattle.answer_texts.proofs.graph_of_proof.push_edges.Given as goal

abbrev pub invariant-loop-premise : goal.invariant-loop-premise
invariant-loop-premise l = l.out.items ≡ l.fn.out.items ++ flat_map (graphs.premise_edge l.number) (take l.premise-index l.premises)
