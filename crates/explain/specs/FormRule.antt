-- The rules by which lines follow for forms.
use Rattle.std.specs.Prelude.{ℕ, Option, Some, None}
use Rattle.axioms.specs.Ontology.{Ontology, Axiom, SubClass, EquivalentClasses, DisjointClasses, SubProperty, EquivalentProperties, Domain, Transitive, Reflexive, ClassAssertion, PropertyAssertion, SameIndividuals, DifferentIndividuals, NegativePropertyAssertion}
use Rattle.axioms.specs.View.{at_number}
use Rattle.certificate.specs.declared.line.Rule.{Rule}
use Rattle.certificate.specs.declared.line.Rule.TheVariants.{K4, K5, K6, K7, K8, K9, K10, K12, K13, K14, K15, K16, K17, K20}
use Rattle.normal_forms.specs.declared.forms.Form.{Form}
use Rattle.normal_forms.specs.declared.forms.Form.TheVariants.{N1, N2, N3}
use Rattle.normal_forms.specs.declared.forms.Origin.{Origin}
use Rattle.normal_forms.specs.declared.forms.Origin.TheVariants as origins

-- the rule for a line of a form that the axiom gave: of individuals that are one it is not the line of a fact; a plain subproperty has
-- no such form, and individuals that differ have a list
abbrev pub axiom_rule : Axiom → Rule
axiom_rule (SubClass _ _) = K4
axiom_rule (EquivalentClasses _) = K4
axiom_rule (DisjointClasses _) = K7
axiom_rule (SubProperty _ _) = K13
axiom_rule (EquivalentProperties _) = K12
axiom_rule (Domain _ _) = K10
axiom_rule (Transitive _) = K13
axiom_rule (Reflexive _) = K14
axiom_rule (ClassAssertion _ _) = K15
axiom_rule (PropertyAssertion _ _ _) = K16
axiom_rule (SameIndividuals _) = K17
axiom_rule (DifferentIndividuals _) = K20
axiom_rule (NegativePropertyAssertion _ _ _) = K20

-- the rule for a form that an expression gave
abbrev pub expression_rule : Form → Rule
expression_rule (N1 a b) = K6
expression_rule (N2 a b c) = K5
expression_rule (N3 a r b) = K8
expression_rule _ = K9

-- by the axiom of that number, where it is stated
abbrev pub stated_rule : Option Axiom → ℕ → Form → Rule × Option ℕ
stated_rule (Some a) number form = (axiom_rule a, Some number)
stated_rule None number form = (expression_rule form, None)

-- the rule for a fact of the form, and the number of the axiom that gave the form, if one did
abbrev pub origin_rule : Ontology → Option Origin → Form → Rule × Option ℕ
origin_rule o (Some (origins.Axiom number)) form = stated_rule (at_number o.axioms number) number form
origin_rule o (Some (origins.Expr e)) form = (expression_rule form, None)
origin_rule o None form = (expression_rule form, None)

-- the same of a form of two classes: an axiom that gives one says that the first is below the second, and an expression that gives one
-- is an intersection with the second among its operands
abbrev pub inclusion_rule : Option Origin → Rule × Option ℕ
inclusion_rule (Some (origins.Axiom number)) = (K4, Some number)
inclusion_rule (Some (origins.Expr e)) = (K6, None)
inclusion_rule None = (K6, None)
