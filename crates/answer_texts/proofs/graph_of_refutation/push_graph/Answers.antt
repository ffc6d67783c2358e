use Rattle.std.proofs.Common.{◌++◌, List, ℕ, ap₂, ◌∙◌, append_assoc}
use Rattle.answer_texts.specs.Graphs.{drawn, graph_head}
use Rattle.answer_texts.specs.Pairs.{all_elements}
use Rattle.answer_texts.proofs.graph_of_refutation.push_graph.Goals as goal

pub returns : goal.returns
returns c =
    let told : List ℕ → List ℕ = λ elements. drawn c.args.ontology.now.names c.args.interpretation.now elements c.args.refuting in
    c.in_ok-push_drawn.ensures
    ∙ ap₂ (λ (out elements : List ℕ). out ++ told elements) c.in_ok-extend_from_slice.ensures.items (c.deref.ensures.value ∙ c.in_ok-elements.ensures)
    ∙ append_assoc c.args.out.now.items graph_head (told (all_elements c.args.interpretation.now))
