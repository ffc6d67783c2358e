use Rattle.std.proofs.Common.{◌≡◌, ◌++◌, [], drop}
use Rattle.axioms.specs.Ontology.{property_name}
use Rattle.answer_texts.specs.Names.{name_text}
use Rattle.answer_texts.proofs.Forms.{pieces}
use Rattle.answer_texts.proofs.axiom.push_properties.Given as goal

abbrev pub invariant-loop-operand : goal.invariant-loop-operand
invariant-loop-operand l =
    l.out.items ++ pieces (λ x. name_text (property_name l.ontology x.0)) l.lead (drop l.operand-index l.operands)
    ≡ l.initial.out.items ++ pieces (λ x. name_text (property_name l.ontology x.0)) [] l.operands
