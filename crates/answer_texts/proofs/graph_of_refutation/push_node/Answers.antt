use Rattle.std.proofs.Common.{◌++◌, List, ℕ, ap, ◌∙◌}
use Rattle.std.specs.Prelude.{codes}
use Rattle.std.specs.Fmt.{decimal}
use Rattle.answer_texts.specs.Graphs.{element_labels, outlines}
use Rattle.answer_texts.proofs.Labelling.{node_pieces}
use Rattle.answer_texts.proofs.graph_of_refutation.push_node.Goals as goal

pub returns : goal.returns
returns c = λ i made are.
    let x = c.args.element in
    let begun = c.in_ok-push_number-2.ensures ∙ ap (λ (o : List ℕ). o ++ (codes " [label=\"" ++ decimal x)) c.in_ok-push_number.ensures in
    let named = c.in_ok-push_labels.ensures i made are ∙ ap (λ (o : List ℕ). o ++ element_labels c.args.ontology.now.names i x) begun in
    let quoted = c.in_ok-extend_from_slice.ensures.items ∙ ap (λ (o : List ℕ). o ++ codes "\"") named in
    let outlined = c.in_ok-push_outlines.ensures ∙ ap (λ (o : List ℕ). o ++ outlines c.args.refuting x) quoted in
    c.in_ok-extend_from_slice-2.ensures.items ∙ ap (λ (o : List ℕ). o ++ codes "];\n") outlined
    ∙ node_pieces c.args.out.now.items (codes "  ") (codes " [label=\"") (decimal x) (element_labels c.args.ontology.now.names i x) (codes "\"") (outlines c.args.refuting x) (codes "];\n")
