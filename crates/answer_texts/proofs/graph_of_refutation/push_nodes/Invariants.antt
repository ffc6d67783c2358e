use Rattle.std.proofs.Common.{take}
use Rattle.std.specs.List.{flat_map}
use Rattle.answer_texts.specs.Graphs as graphs
use Rattle.answer_texts.specs.Labels.{AddsTold}
use Rattle.answer_texts.proofs.graph_of_refutation.push_nodes.Given as goal

abbrev pub invariant-loop-element : goal.invariant-loop-element
invariant-loop-element l = AddsTold l.ontology.names l.labels (λ i. flat_map (graphs.element_node l.ontology.names i l.refuting) (take l.element-index l.elements)) l.fn.out.items l.out.items
