use Rattle.std.proofs.Common.{◌≡◌, ◌++◌, ◌<◌, ◌≤◌, ℕ, List, Some, All, sym, ap, ◌∙◌, subst, length, map, arith, ap₂, OnOk, append_assoc}
use Rattle.std.specs.Prelude.{codes}
use Rattle.std.specs.String.{string_bytes}
use Rattle.std.proofs.lemmas.List.{append-nil, length-map, drop_all}
use Rattle.std.proofs.lemmas.Option.{none-some}
use Rattle.lemmas.proofs.Mapped.{All-from_map}
use Rattle.lemmas.proofs.Places.{slice_get_there}
use Rattle.axioms.specs.declared.ids.ExprId.{ExprId}
use Rattle.axioms.specs.View.{expr_numbers, node_of}
use Rattle.axioms.specs.Ontology.{And, Exists, expression, name_at, property_name}
use Rattle.axioms.proofs.Trees.{class_tree, some_tree, and_tree}
use Rattle.answer_texts.specs.Names.{expression_text, name_text}
use Rattle.answer_texts.proofs.Expressions.{texts, five_pieces, intersection_text}
use Rattle.answer_texts.proofs.More.{on_ok}
use Rattle.answer_texts.proofs.expression.+push_expression.Goals as goal

pub push_expression-requires : goal.push_expression-requires
push_expression-requires t c =
    let w = c.in-Some-And.ensures.valid in
    let e = c.args.expression.0 in
    let operands = c.in-Some-And.operands.items in
    let g = sym c.in-Some-And.ensures.node ∙ ap (λ e. Some (node_of e)) c.in-Some-And.field-0-is in
    let all = All-from_map (λ (x : ℕ). x < e) (λ (x : ExprId). x.0) operands (w.nodes e (And (expr_numbers operands)) g).within in
    let before = subst (λ (xs : List ExprId). All (λ (x : ExprId). x.0 < e) xs) (sym c.deref-operand-items.ensures.value) all in
    let l = before c.loop-operand.operand-index record { 0 = 0 } c.loop-operand-test.true in
    (omega (arith, l, c.decreases), omega (arith, l, c.requires))

pub push_expression-requires-in-Some-Some : goal.push_expression-requires-in-Some-Some
push_expression-requires-in-Some-Some t c =
    let w = c.in-Some-Some.ensures.valid in
    let g = sym c.in-Some-Some.ensures.node ∙ ap (λ e. Some (node_of e)) c.in-Some-Some.field-0-is in
    let (r, l) = w.nodes c.args.expression.0 (Exists c.in-Some-Some.property.0 c.in-Some-Some.filler.0) g in
    (omega (arith, l, c.decreases), omega (arith, c.requires, l))

pub unreachable-requires : goal.unreachable-requires
unreachable-requires t c =
    let (node, g) = slice_get_there c.args.ontology.now.nodes c.args.expression.0 c.requires in
    none-some node (c.in-None.ensures.node ∙ g)

pub returns-in-Some-Class : goal.returns-in-Some-Class
returns-in-Some-Class t c =
    let o = c.args.ontology.now in
    let e = c.args.expression.0 in
    let k = c.in-Some-Class.class.0 in
    let g = sym c.in-Some-Class.ensures.node ∙ ap (λ e. Some (node_of e)) c.in-Some-Class.field-0-is in
    let is = ap₂ (λ (names : List (List ℕ)) (n : ℕ). name_text (name_at names n)) c.classes.ensures.names c.index.ensures ∙ sym (ap expression_text (class_tree o k e g)) in
    subst (λ (t : List ℕ). OnOk c.push_name.result (c.push_name.new.out.items ≡ c.args.out.now.items ++ t)) is c.push_name.ensures

pub returns-after-loop-operand : goal.returns-after-loop-operand
returns-after-loop-operand t c =
    let o = c.args.ontology.now in
    let e = c.args.expression.0 in
    let w = c.in-Some-And.ensures.valid in
    let operands = c.in-Some-And.operands.items in
    let g = sym c.in-Some-And.ensures.node ∙ ap (λ e. Some (node_of e)) c.in-Some-And.field-0-is in
    let out = c.args.out.now.items in
    let now = c.loop-operand.out.items in
    let items = c.deref-operand-items.result.now in
    let all = drop_all c.loop-operand.operand-index items c.loop-operand-test.false in
    let many : 2 ≤ length operands = omega (arith, (w.nodes e (And (expr_numbers operands)) g).many, length-map operands (λ (x : ExprId). x.0)) in
    let read : now ≡ out ++ texts o (codes "ObjectIntersectionOf(") operands =
    sym (append-nil now)
    ∙ ap (λ (es : List ExprId). now ++ texts o c.loop-operand.lead.now es) (sym all)
    ∙ c.loop-operand.invariant
    ∙ ap (λ (es : List ExprId). out ++ texts o (codes "ObjectIntersectionOf(") es) c.deref-operand-items.ensures.value in
    let whole : now ++ codes ")" ≡ out ++ expression_text (expression o e) =
    ap (λ (t : List ℕ). t ++ codes ")") read
    ∙ append_assoc out (texts o (codes "ObjectIntersectionOf(") operands) (codes ")")
    ∙ ap (λ (t : List ℕ). out ++ t) (intersection_text o operands many ∙ sym (ap expression_text (and_tree o w e (expr_numbers operands) g))) in
    on_ok c.extend_from_slice-in-Some-And.result c.extend_from_slice-in-Some-And.new.self.items now (codes ")") (out ++ expression_text (expression o e)) c.extend_from_slice-in-Some-And.ensures.items whole

pub returns-in_ok-push_expression-in-Some-Some : goal.returns-in_ok-push_expression-in-Some-Some
returns-in_ok-push_expression-in-Some-Some t c =
    let o = c.args.ontology.now in
    let e = c.args.expression.0 in
    let r = c.in-Some-Some.property.0 in
    let d = c.in-Some-Some.filler.0 in
    let w = c.in-Some-Some.ensures.valid in
    let g = sym c.in-Some-Some.ensures.node ∙ ap (λ e. Some (node_of e)) c.in-Some-Some.field-0-is in
    let out = c.args.out.now.items in
    let begin = codes "ObjectSomeValuesFrom(" in
    let name = name_text (property_name o r) in
    let filler = expression_text (expression o d) in
    let one = c.in_ok-extend_from_slice-in-Some-Some.ensures.items in
    let two : c.push_name-in-Some-Some.new.out.items ≡ (out ++ begin) ++ name =
    c.in_ok-push_name-in-Some-Some.ensures
    ∙ ap (λ (n : ℕ). c.extend_from_slice-in-Some-Some.new.self.items ++ name_text (name_at (map string_bytes c.properties.result.now) n)) c.index-in-Some-Some.ensures
    ∙ ap₂ (λ (x : List ℕ) (names : List (List ℕ)). x ++ name_text (name_at names r)) one c.properties.ensures.names in
    let three = c.in_ok-extend_from_slice-in-Some-Some-2.ensures.items ∙ ap (λ (x : List ℕ). x ++ codes " ") two in
    let four = c.in_ok-push_expression-in-Some-Some.ensures ∙ ap (λ (x : List ℕ). x ++ filler) three in
    let whole : c.push_expression-in-Some-Some.new.out.items ++ codes ")" ≡ out ++ expression_text (expression o e) =
    ap (λ (x : List ℕ). x ++ codes ")") four
    ∙ five_pieces out begin name (codes " ") filler (codes ")")
    ∙ ap (λ (t : List ℕ). out ++ t) (sym (ap expression_text (some_tree o w e r d g))) in
    on_ok c.extend_from_slice-in-Some-Some-3.result c.extend_from_slice-in-Some-Some-3.new.self.items c.push_expression-in-Some-Some.new.out.items (codes ")") (out ++ expression_text (expression o e)) c.extend_from_slice-in-Some-Some-3.ensures.items whole
