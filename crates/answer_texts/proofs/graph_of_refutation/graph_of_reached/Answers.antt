use Rattle.std.proofs.Common.{◌≡◌, ◌++◌, ◌-◌, List, ℕ, length, ap, ap₂, ◌∙◌, append_assoc, arith}
use Rattle.answer_texts.specs.Graphs.{drawn, graph_head}
use Rattle.answer_texts.specs.Reached.{elements_in, others_label}
use Rattle.answer_texts.proofs.graph_of_refutation.graph_of_reached.Goals as goal

pub returns : goal.returns
returns c =
    let i = c.args.interpretation.now in
    let elements = elements_in i c.args.reached.now in
    let told : List ℕ → List ℕ = λ xs. drawn c.args.ontology.now.names i xs c.args.refuting in
    let label = others_label (i.size - length elements) in
    let shown : c.len.result ≡ length elements = omega (arith, c.len.ensures, c.in_ok-elements.elements.ok, ap length c.in_ok-elements.ensures.are) in
    let begun : c.push_others.new.out.items ≡ graph_head ++ label =
    c.in_ok-push_others.ensures ∙ ap₂ (λ (o : List ℕ) (n : ℕ). o ++ others_label n) (c.in_ok-extend_from_slice.ensures.items ∙ ap (λ (o : List ℕ). o ++ graph_head) c.new-out.ensures.items) (ap₂ (λ (n m : ℕ). n - m) c.size.ensures.value shown) in
    c.in_ok-push_drawn.ensures
    ∙ ap₂ (λ (o xs : List ℕ). o ++ told xs) begun (c.deref.ensures.value ∙ c.in_ok-elements.ensures.are)
    ∙ append_assoc graph_head label (told elements)
