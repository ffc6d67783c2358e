use Rattle.std.proofs.Common.{◌≡◌, ◌++◌, ℕ, List, OnOk, refl, map, ap, sym, ◌∙◌, subst}
use Rattle.std.specs.Prelude.{codes}
use Rattle.std.proofs.lemmas.Result.{on_ok_weaker}
use Rattle.axioms.specs.Ontology.{axiom_tree, expressions, property_name}
use Rattle.axioms.specs.View.{axiom_of, expr_numbers, prop_numbers}
use Rattle.answer_texts.specs.Axioms.{axiom_text, form}
use Rattle.answer_texts.specs.Names.{expression_text, name_text}
use Rattle.answer_texts.proofs.More.{added}
use Rattle.answer_texts.proofs.axiom.write_axiom.Goals as goal

pub returns-in-EquivalentClasses : goal.returns-in-EquivalentClasses
returns-in-EquivalentClasses c =
    let o = c.args.ontology.now in
    let is =
    ap (λ es. form (codes "EquivalentClasses") (map expression_text (expressions o (expr_numbers es)))) c.deref.ensures.value
    ∙ ap (λ a. axiom_text (axiom_tree o (axiom_of a))) (sym c.in-EquivalentClasses.is) in
    let push = c.push_expressions-in-EquivalentClasses in
    subst (λ (t : List ℕ). OnOk push.result (push.new.out.items ≡ c.args.out.now.items ++ t)) is push.ensures

pub returns-in-DisjointClasses : goal.returns-in-DisjointClasses
returns-in-DisjointClasses c =
    let o = c.args.ontology.now in
    let is =
    ap (λ es. form (codes "DisjointClasses") (map expression_text (expressions o (expr_numbers es)))) c.deref-in-DisjointClasses.ensures.value
    ∙ ap (λ a. axiom_text (axiom_tree o (axiom_of a))) (sym c.in-DisjointClasses.is) in
    let push = c.push_expressions-in-DisjointClasses in
    subst (λ (t : List ℕ). OnOk push.result (push.new.out.items ≡ c.args.out.now.items ++ t)) is push.ensures

pub returns-in-EquivalentProperties : goal.returns-in-EquivalentProperties
returns-in-EquivalentProperties c =
    let o = c.args.ontology.now in
    let is =
    ap (λ ps. form (codes "EquivalentObjectProperties") (map name_text (map (property_name o) (prop_numbers ps)))) c.deref-in-EquivalentProperties.ensures.value
    ∙ ap (λ a. axiom_text (axiom_tree o (axiom_of a))) (sym c.in-EquivalentProperties.is) in
    subst (λ (t : List ℕ). OnOk c.push_properties.result (c.push_properties.new.out.items ≡ c.args.out.now.items ++ t)) is c.push_properties.ensures

pub returns-in_ok-extend_from_slice-in-NegativePropertyAssertion : goal.returns-in_ok-extend_from_slice-in-NegativePropertyAssertion
returns-in_ok-extend_from_slice-in-NegativePropertyAssertion c =
    let is = ap (λ a. axiom_text (axiom_tree c.args.ontology.now (axiom_of a))) (sym c.in-NegativePropertyAssertion.is) in
    let push = c.push_pair-in-NegativePropertyAssertion in
    subst (λ (t : List ℕ). OnOk push.result (push.new.out.items ≡ c.args.out.now.items ++ t)) is
    (on_ok_weaker push.result (λ e. added c.args.out.now.items _ _ (codes "NegativeObjectPropertyAssertion") _ _ c.in_ok-extend_from_slice-in-NegativePropertyAssertion.ensures.items e refl) push.ensures)
