use Rattle.std.proofs.Common.{◌≡◌, ◌<◌, ◌++◌, ◌∷◌, [], false, Contains, length, map, string_bytes, sym, subst, ap, ◌∙◌, arith}
use Rattle.std.proofs.lemmas.List.{length-map, map-append}
use Rattle.axioms.specs.Growth.{most_names, with_class}
use Rattle.axioms.specs.Fields.{kept_ontology}
use Rattle.axioms.specs.Ontology.{Class}
use Rattle.axioms.specs.View.{node_of}
use Rattle.axioms.specs.declared.terms.Expr.TheVariants as exprs
use Rattle.std.specs.List.{list_any}
use Rattle.std.specs.String.{string_eq}
use Rattle.axioms.specs.contracts.terms.ExprPartialEq.TheImpl.{ghosts}
use Rattle.axioms.proofs.Growing.{new_class_node, with_class_is}
use Rattle.axioms.proofs.Insertions.{unlisted, same_text, same_expr}
use Rattle.axioms.proofs.Keeping.{bounded_with_class, kept_as, table_of, grown_table, class_pushed}
use Rattle.axioms.proofs.ontology.Ontology.new_class.Goals as goal
use Rattle.axioms.proofs.ontology.Ontology.new_class.Goals.{After-push_reserved}

number : (c : After-push_reserved) → c.push.result ≡ length (map string_bytes c.self.inside.classes.keys)
number c = c.push.ensures.number ∙ ap length c.reserve-3.ensures.keys ∙ sym (length-map c.self.inside.classes.keys string_bytes)

place : (c : After-push_reserved) → c.push-2.result ≡ length (map node_of c.self.inside.expressions.keys)
place c = c.push-2.ensures.number ∙ ap length c.reserve.ensures.keys ∙ sym (length-map c.self.inside.expressions.keys node_of)

classes : (c : After-push_reserved) → map string_bytes c.push.new.self.keys ≡ map string_bytes c.self.inside.classes.keys ++ string_bytes c.args.text ∷ []
classes c =
    ap (map string_bytes) (c.push.ensures.keys ∙ ap (λ ks. ks ++ c.args.text ∷ []) c.reserve-3.ensures.keys) ∙ map-append string_bytes c.self.inside.classes.keys (c.args.text ∷ [])

nodes : (c : After-push_reserved) → map node_of c.push-2.new.self.keys ≡ map node_of c.self.inside.expressions.keys ++ Class c.push.result ∷ []
nodes c =
    ap (map node_of) (c.push-2.ensures.keys ∙ ap (λ ks. ks ++ exprs.Class (record { 0 = c.push.result }) ∷ []) c.reserve.ensures.keys)
    ∙ map-append node_of c.self.inside.expressions.keys (exprs.Class (record { 0 = c.push.result }) ∷ [])

grown : (c : After-push_reserved)
    → record (kept_ontology c.self.inside) { names = record (kept_ontology c.self.inside).names { classes = map string_bytes c.push.new.self.keys }; nodes = map node_of c.push-2.new.self.keys }
    ≡ with_class (kept_ontology c.self.inside) (string_bytes c.args.text)
grown c = class_pushed (kept_ontology c.self.inside) (string_bytes c.args.text) _ _ c.push.result (classes c) (nodes c) (number c)

table_is : (c : After-push_reserved) → c.push_reserved.new.self.items ≡ c.self.inside.class_expressions.items ++ record { 0 = c.push-2.result } ∷ []
table_is c = c.push_reserved.ensures.items ∙ ap (λ es. es ++ record { 0 = c.push-2.result } ∷ []) c.reserve-2.ensures.items

absent : (c : After-push_reserved) → Contains (map string_bytes c.self.inside.classes.keys) (string_bytes c.args.text) → ⊥
absent c = subst (λ o. Contains o.names.classes (string_bytes c.args.text) → ⊥) (sym c.self.view_is) c.requires.new

pub invariant_of-self-2 : goal.invariant_of-self-2
invariant_of-self-2 c =
    let o = kept_ontology c.self.inside in
    let iri = string_bytes c.args.text in
    let table = grown_table o iri c.self.inside.class_expressions.items (record { 0 = c.push-2.result }) (table_of c.self.inside c.self.invariant) (place c) in
    kept_as _ (with_class o iri) (grown c) (with_class_is o c.self.invariant.ontology iri (absent c))
    (bounded_with_class o iri c.self.invariant.bounded (subst (λ p. length p.names.classes < most_names) (sym c.self.view_is) c.requires.room) (omega (arith, length-map c.self.inside.expressions.keys node_of))) (rw (table_is c) table)

pub returns-clause-number : goal.returns-clause-number
returns-clause-number c = rw (← c.self.view_is) (number c)

pub returns-clause-place : goal.returns-clause-place
returns-clause-place c = rw (← c.self.view_is) (place c)

pub returns-clause-ok : goal.returns-clause-ok
returns-clause-ok c = rw (← c.self.view_is) (grown c)

pub push-requires : goal.push-requires
push-requires c = record {
  absent = subst (λ ks. list_any (string_eq c.args.text) ks ≡ false) (sym c.reserve-3.ensures.keys) (unlisted string_eq string_bytes same_text c.args.text c.self.inside.classes.keys (subst (λ o. Contains o.names.classes (string_bytes c.args.text) → ⊥) (sym c.self.view_is) c.requires.new));
  room = c.in_ok-reserve-3.ensures.room;
}

pub push-requires-2 : goal.push-requires-2
push-requires-2 c =
    let o = kept_ontology c.self.inside in
    let n-is : c.push.result ≡ length (map string_bytes c.self.inside.classes.keys) = c.push.ensures.number ∙ ap length c.reserve-3.ensures.keys ∙ sym (length-map c.self.inside.classes.keys string_bytes) in
    let fresh : Contains (map node_of c.self.inside.expressions.keys) (Class c.push.result) → ⊥ = λ there. new_class_node o c.self.invariant.ontology (subst (λ m. Contains o.nodes (Class m)) n-is there) in
    record {
      absent = subst (λ ks. list_any (ghosts.eq (exprs.Class (record { 0 = c.push.result }))) ks ≡ false) (sym c.reserve.ensures.keys) (unlisted ghosts.eq node_of same_expr (exprs.Class (record { 0 = c.push.result })) c.self.inside.expressions.keys fresh);
      room = c.in_ok-reserve.ensures.room;
    }
