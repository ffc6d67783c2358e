use Rattle.std.proofs.Common.{◌≡◌, ◌++◌, ℕ, List, [], map, ap, sym, ◌∙◌}
use Rattle.std.specs.Prelude.{codes}
use Rattle.axioms.specs.declared.ids.PropId.{PropId}
use Rattle.axioms.specs.Ontology.{property_name}
use Rattle.answer_texts.specs.Axioms.{form}
use Rattle.answer_texts.specs.Names.{name_text}
use Rattle.answer_texts.proofs.Forms.{pieces, form_closed, texts_by_number}
use Rattle.answer_texts.proofs.More.{on_ok}
use Rattle.answer_texts.proofs.axiom.push_properties.Goals as goal

pub returns : goal.returns
returns c =
    let o = c.args.ontology.now in
    let out = c.args.out.now.items in
    let keyword = c.args.keyword.now in
    let operands = c.args.operands.now in
    let loop = c.loop-operand in
    let text = λ (x : PropId). name_text (property_name o x.0) in
    let begun : c.extend_from_slice-2.new.self.items ≡ (out ++ keyword) ++ codes "(" =
    c.in_ok-extend_from_slice-2.ensures.items ∙ ap (λ (t : List ℕ). t ++ codes "(") c.in_ok-extend_from_slice.ensures.items in
    let read = loop.invariant ∙ ap (λ (t : List ℕ). t ++ pieces text [] operands) begun in
    let whole =
    form_closed text out keyword loop.out.items loop.lead.now operands loop.operand-index c.loop-operand-test.false read
    ∙ ap (λ texts. out ++ form keyword texts) (sym (texts_by_number name_text (property_name o) (λ (x : PropId). x.0) operands)) in
    on_ok c.extend_from_slice-3.result c.extend_from_slice-3.new.self.items loop.out.items (codes ")")
    (out ++ form keyword (map name_text (map (property_name o) (map (λ (x : PropId). x.0) operands)))) c.extend_from_slice-3.ensures.items whole
