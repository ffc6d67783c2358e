use Rattle.std.specs.Prelude.{codes}
use Rattle.axioms.specs.Ontology.{expression, property_name}
use Rattle.answer_texts.specs.Names.{expression_text, name_text}
use Rattle.answer_texts.proofs.Forms.{two_operands}
use Rattle.answer_texts.proofs.axiom.push_domain.Goals as goal

pub returns : goal.returns
returns c =
    let o = c.args.ontology.now in
    let property = name_text (property_name o c.args.property.0) in
    let class = expression_text (expression o c.args.class.0) in
    two_operands c.extend_from_slice-3.result c.args.out.now.items (codes "ObjectPropertyDomain") property class
    c.extend_from_slice.new.self.items c.push_property.new.out.items c.extend_from_slice-2.new.self.items c.push_expression.new.out.items c.extend_from_slice-3.new.self.items
    c.in_ok-extend_from_slice.ensures.items c.in_ok-push_property.ensures c.in_ok-extend_from_slice-2.ensures.items c.in_ok-push_expression.ensures c.extend_from_slice-3.ensures.items
