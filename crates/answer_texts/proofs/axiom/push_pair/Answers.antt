use Rattle.std.proofs.Common.{[]}
use Rattle.axioms.specs.Ontology.{individual_name, property_name}
use Rattle.answer_texts.specs.Names.{name_text}
use Rattle.answer_texts.proofs.Forms.{three_operands}
use Rattle.answer_texts.proofs.axiom.push_pair.Goals as goal

pub returns : goal.returns
returns c =
    let o = c.args.ontology.now in
    let property = name_text (property_name o c.args.property.0) in
    let source = name_text (individual_name o c.args.source.0) in
    let target = name_text (individual_name o c.args.target.0) in
    three_operands c.extend_from_slice-4.result c.args.out.now.items [] property source target
    c.extend_from_slice.new.self.items c.push_property.new.out.items c.extend_from_slice-2.new.self.items
    c.push_individual.new.out.items c.extend_from_slice-3.new.self.items c.push_individual-2.new.out.items c.extend_from_slice-4.new.self.items
    c.in_ok-extend_from_slice.ensures.items c.in_ok-push_property.ensures c.in_ok-extend_from_slice-2.ensures.items
    c.in_ok-push_individual.ensures c.in_ok-extend_from_slice-3.ensures.items c.in_ok-push_individual-2.ensures c.extend_from_slice-4.ensures.items
