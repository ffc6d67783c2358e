use Rattle.std.proofs.Common.{◌≡◌, ◌++◌, ℕ, List, [], ◌<◌, length, map, ap, sym, ◌∙◌}
use Rattle.std.specs.Prelude.{codes}
use Rattle.lemmas.proofs.Mapped.{All-from_map}
use Rattle.axioms.specs.declared.ids.ExprId.{ExprId}
use Rattle.axioms.specs.Ontology.{expression}
use Rattle.answer_texts.specs.Axioms.{form}
use Rattle.answer_texts.specs.Names.{expression_text}
use Rattle.answer_texts.proofs.Forms.{pieces, form_closed, texts_by_number}
use Rattle.answer_texts.proofs.More.{on_ok}
use Rattle.answer_texts.proofs.axiom.push_expressions.Goals as goal

pub push_expression-requires : goal.push_expression-requires
push_expression-requires c =
    All-from_map (λ (x : ℕ). x < length c.args.ontology.now.nodes) (λ (x : ExprId). x.0) c.args.operands.now c.requires c.loop-operand.operand-index record { 0 = 0 } c.loop-operand-test.true

pub returns : goal.returns
returns c =
    let o = c.args.ontology.now in
    let out = c.args.out.now.items in
    let keyword = c.args.keyword.now in
    let operands = c.args.operands.now in
    let loop = c.loop-operand in
    let text = λ (x : ExprId). expression_text (expression o x.0) in
    let begun : c.extend_from_slice-2.new.self.items ≡ (out ++ keyword) ++ codes "(" =
    c.in_ok-extend_from_slice-2.ensures.items ∙ ap (λ (t : List ℕ). t ++ codes "(") c.in_ok-extend_from_slice.ensures.items in
    let read = loop.invariant ∙ ap (λ (t : List ℕ). t ++ pieces text [] operands) begun in
    let whole =
    form_closed text out keyword loop.out.items loop.lead.now operands loop.operand-index c.loop-operand-test.false read
    ∙ ap (λ texts. out ++ form keyword texts) (sym (texts_by_number expression_text (expression o) (λ (x : ExprId). x.0) operands)) in
    on_ok c.extend_from_slice-3.result c.extend_from_slice-3.new.self.items loop.out.items (codes ")")
    (out ++ form keyword (map expression_text (map (expression o) (map (λ (x : ExprId). x.0) operands)))) c.extend_from_slice-3.ensures.items whole
