use Rattle.std.proofs.Common.{◌≡◌, ◌++◌, take}
use Rattle.std.specs.List.{flat_map, enumerate_from}
use Rattle.certificate.specs.View.{lines_of}
use Rattle.answer_texts.specs.Graphs as graphs
use Rattle.answer_texts.proofs.graph_of_proof.push_graph.Given as goal

abbrev pub invariant-loop-place : goal.invariant-loop-place
invariant-loop-place l = l.out.items ≡ l.fn.out.items ++ flat_map (graphs.line_graph l.ontology) (enumerate_from 1 (lines_of (take l.place l.lines)))
