-- What was there stays in front, where something is added.
use Rattle.std.proofs.Common.{◌≡◌, ℕ, inl, inr, List, [], ◌∷◌, Ok, Err, Result, IfOk, OnErr, OnOk, refl, sym, ◌∙◌, subst}
use Rattle.std.proofs.lemmas.List.{append-nil}
use Rattle.device.specs.declared.fault.Memory.{Memory}
use Rattle.axioms.proofs.Fronts.{extends_self}
use Rattle.axioms.specs.Axiom as tree
use Rattle.axioms.specs.Expression.{Iri, ClassExpression}
use Rattle.axioms.specs.Fronts.{Continues, Extends}
use Rattle.axioms.specs.Growth.{Declares, DeclaresClass, DeclaresIndividual, DeclaresProperty, Numbers, with_axiom}
use Rattle.axioms.specs.Ontology.{Ontology, Axiom, Node}
use Rattle.axioms.specs.declared.fault.BuildFault.{BuildFault}
use Rattle.axioms.specs.declared.ids.ExprId.{ExprId}
use Rattle.axioms.specs.declared.terms.Kind.{Kind}
use Rattle.axioms.specs.declared.terms.Kind.TheVariants as kinds
use Rattle.axioms.specs.declared.terms.Name.{Name}
use Rattle.axioms.specs.declared.terms.Name.TheVariants as declared
use Rattle.profile.specs.Additions.{Adds}

pub extends_of : (es : List ClassExpression) (rs as' : List Iri) (xs : List tree.Axiom) (o p : Ontology) → Adds es rs as' xs o p → Extends o p
extends_of es rs as' xs o p adds = record {
  classes = (adds.grows.classes_grow.rest, adds.grows.classes_grow.keeps);
  properties = (adds.grows.properties_grow.rest, adds.grows.properties_grow.keeps);
  individuals = (adds.grows.individuals_grow.rest, adds.grows.individuals_grow.keeps);
  nodes = adds.kept.nodes;
  axioms = adds.kept.axioms;
}

same_extends : (o p : Ontology) → p ≡ o → Extends o p
same_extends o p same = subst (Extends o) (sym same) (extends_self o)

continues : {A : Type 0} (old : List A) (x : A) (new : List A) (n : ℕ) → Numbers old x new n → Continues old new
continues old x new n (inl (at, same)) = ([], same ∙ sym (append-nil old))
continues old x new n (inr (apart, last, longer)) = (x ∷ [], longer)

class_extends : (o p : Ontology) (iri : Iri) (c e : ℕ) → DeclaresClass o iri p c e → Extends o p
class_extends o p iri c e declares =
    let self = extends_self o in
    let q : Ontology = record o { names = record o.names { classes = p.names.classes }; nodes = p.nodes } in
    let grown : Extends o q =
    record { classes = continues o.names.classes iri p.names.classes c declares.name; properties = self.properties; individuals = self.individuals; nodes = continues o.nodes _ p.nodes e declares.node; axioms = self.axioms } in
    subst (Extends o) (sym declares.others) grown

property_extends : (o p : Ontology) (iri : Iri) (n : ℕ) → DeclaresProperty o iri p n → Extends o p
property_extends o p iri n declares =
    let self = extends_self o in
    let q : Ontology = record o { names = record o.names { properties = p.names.properties } } in
    let grown : Extends o q =
    record { classes = self.classes; properties = continues o.names.properties iri p.names.properties n declares.name; individuals = self.individuals; nodes = self.nodes; axioms = self.axioms } in
    subst (Extends o) (sym declares.others) grown

individual_extends : (o p : Ontology) (iri : Iri) (n : ℕ) → DeclaresIndividual o iri p n → Extends o p
individual_extends o p iri n declares =
    let self = extends_self o in
    let q : Ontology = record o { names = record o.names { individuals = p.names.individuals } } in
    let grown : Extends o q =
    record { classes = self.classes; properties = self.properties; individuals = continues o.names.individuals iri p.names.individuals n declares.name; nodes = self.nodes; axioms = self.axioms } in
    subst (Extends o) (sym declares.others) grown

-- whatever a declaration answers
pub declared_extends : (o p : Ontology) (kind : Kind) (iri : Iri) (r : Result Name BuildFault) → IfOk r (Declares o kind iri p) → OnErr r (p ≡ o) → Extends o p
declared_extends o p kinds.Class iri (Ok (declared.Class c e)) ok err = class_extends o p iri c.0 e.0 ok
declared_extends o p kinds.Property iri (Ok (declared.Property n)) ok err = property_extends o p iri n.0 ok
declared_extends o p kinds.Individual iri (Ok (declared.Individual n)) ok err = individual_extends o p iri n.0 ok
declared_extends o p kinds.Class iri (Ok (declared.Property n)) ok err = absurd ok
declared_extends o p kinds.Class iri (Ok (declared.Individual n)) ok err = absurd ok
declared_extends o p kinds.Property iri (Ok (declared.Class c e)) ok err = absurd ok
declared_extends o p kinds.Property iri (Ok (declared.Individual n)) ok err = absurd ok
declared_extends o p kinds.Individual iri (Ok (declared.Class c e)) ok err = absurd ok
declared_extends o p kinds.Individual iri (Ok (declared.Property n)) ok err = absurd ok
declared_extends o p kind iri (Err fault) ok err = same_extends o p err

pub expression_extends : (o p : Ontology) (node : Node) (r : Result ExprId Memory) → IfOk r (λ e. Numbers o.nodes node p.nodes e.0) → p ≡ record o { nodes = p.nodes } → OnErr r (p ≡ o) → Extends o p
expression_extends o p node (Ok e) numbers others err =
    let self = extends_self o in
    let grown : Extends o (record o { nodes = p.nodes }) =
    record { classes = self.classes; properties = self.properties; individuals = self.individuals; nodes = continues o.nodes node p.nodes e.0 numbers; axioms = self.axioms } in
    subst (Extends o) (sym others) grown
expression_extends o p node (Err fault) numbers others err = same_extends o p err

pub axiom_extends : (o p : Ontology) (axiom' : Axiom) (r : Result (Unit {0}) Memory) → OnOk r (p ≡ with_axiom o axiom') → OnErr r (p ≡ o) → Extends o p
axiom_extends o p axiom' (Ok u) ok err =
    let self = extends_self o in
    let grown : Extends o (with_axiom o axiom') = record { classes = self.classes; properties = self.properties; individuals = self.individuals; nodes = self.nodes; axioms = (axiom' ∷ [], refl) } in
    subst (Extends o) (sym ok) grown
axiom_extends o p axiom' (Err fault) ok err = same_extends o p err
