use Rattle.std.proofs.Common.{◌≡◌, ◌==◌, ◌++◌, ℕ, List, [], true, false, OnOk, map, sym, ap, ◌∙◌, subst}
use Rattle.std.specs.List.{list_any}
use Rattle.std.proofs.lemmas.List.{append-nil}
use Rattle.axioms.specs.View.{axiom_of}
use Rattle.axioms.specs.declared.ids.ExprId.{ExprId}
use Rattle.axioms.specs.declared.terms.Axiom.{Axiom}
use Rattle.answers.specs.Conditions.{numbered_conditions, stated_pair}
use Rattle.answers.proofs.Stating.{stated_all, stated_by, stated_none}
use Rattle.answers.proofs.conditions.push_conditions.Goals as goal

pub returns-in-EquivalentClasses : goal.returns-in-EquivalentClasses
returns-in-EquivalentClasses c =
    let number = c.args.number in
    let e = c.args.class.0 in
    let pushed = c.push_others-in-EquivalentClasses in
    let same : numbered_conditions e (number, axiom_of c.args.axiom.now) ≡ stated_by number e c.deref-in-EquivalentClasses.result.now =
    ap (λ (a : Axiom). numbered_conditions e (number, axiom_of a)) c.in-EquivalentClasses.is
    ∙ stated_all number e c.in-EquivalentClasses.operands.items (subst (λ (xs : List ExprId). list_any (λ (x : ExprId). x.0 == e) xs ≡ true) c.deref.ensures.value (sym c.contains.ensures.value ∙ c.if-contains.true))
    ∙ ap (stated_by number e) (sym c.deref-in-EquivalentClasses.ensures.value) in
    subst (λ (ps : List (ℕ × ℕ)). OnOk pushed.result (map stated_pair pushed.new.found.items ≡ map stated_pair c.args.found.now.items ++ ps)) (sym same) pushed.ensures

pub returns-in_default-2 : goal.returns-in_default-2
returns-in_default-2 c =
    let number = c.args.number in
    let e = c.args.class.0 in
    let old = map stated_pair c.args.found.now.items in
    let none : numbered_conditions e (number, axiom_of c.args.axiom.now) ≡ [] =
    ap (λ (a : Axiom). numbered_conditions e (number, axiom_of a)) c.in-EquivalentClasses.is
    ∙ stated_none number e c.in-EquivalentClasses.operands.items
    (subst (λ (xs : List ExprId). list_any (λ (x : ExprId). x.0 == e) xs ≡ false) c.deref.ensures.value (sym c.contains.ensures.value ∙ c.if-contains.false)) in
    sym (ap (λ (ps : List (ℕ × ℕ)). old ++ ps) none ∙ append-nil old)
