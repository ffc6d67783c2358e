use Rattle.std.proofs.Common.{map}
use Rattle.std.specs.Prelude.{codes}
use Rattle.axioms.specs.Ontology.{property_name}
use Rattle.axioms.specs.View.{prop_numbers}
use Rattle.answer_texts.specs.Axioms.{chain_text}
use Rattle.answer_texts.specs.Names.{name_text}
use Rattle.answer_texts.proofs.Forms.{two_operands}
use Rattle.answer_texts.proofs.axiom.push_sub_property.Goals as goal

pub returns : goal.returns
returns c =
    let o = c.args.ontology.now in
    let chain = chain_text (map (property_name o) (prop_numbers c.args.chain.now)) in
    let above = name_text (property_name o c.args.above.0) in
    two_operands c.extend_from_slice-3.result c.args.out.now.items (codes "SubObjectPropertyOf") chain above
    c.extend_from_slice.new.self.items c.push_chain.new.out.items c.extend_from_slice-2.new.self.items c.push_property.new.out.items c.extend_from_slice-3.new.self.items
    c.in_ok-extend_from_slice.ensures.items c.in_ok-push_chain.ensures c.in_ok-extend_from_slice-2.ensures.items c.in_ok-push_property.ensures c.extend_from_slice-3.ensures.items
