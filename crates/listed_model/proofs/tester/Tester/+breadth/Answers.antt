use Rattle.std.proofs.Common.{◌<◌, List, Some, All, sym, ap, ◌∙◌, subst, arith}
use Rattle.axioms.specs.Ontology.{And, Exists}
use Rattle.axioms.specs.View.{node_of, expr_numbers}
use Rattle.axioms.specs.declared.ids.ExprId.{ExprId}
use Rattle.listed_model.proofs.Passed.{each_place}
use Rattle.listed_model.proofs.tester.Tester.+breadth.Goals as goal

pub breadth-least-requires : goal.breadth-least-requires
breadth-least-requires t c =
    let g = sym c.in-Some-And.ensures.node ∙ ap (λ e. Some (node_of e)) c.in-Some-And.field-0-is in
    let e = c.args.expression.0 in
    let items = c.deref-operand-items.result.now in
    let within = (c.in-Some-And.ensures.valid.nodes e (And (expr_numbers c.in-Some-And.operands.items)) g).within in
    let all : All (λ d. d < e) (expr_numbers items) = subst (λ (ds : List ExprId). All (λ d. d < e) (expr_numbers ds)) (sym c.deref-operand-items.ensures.value) within in
    let before = (each_place (λ d. d < e) items).1 all c.loop-operand.operand-index c.loop-operand-test.true in
    (omega (arith, before, c.decreases), c.requires)

pub breadth-fillers-requires : goal.breadth-fillers-requires
breadth-fillers-requires t c =
    let g = sym c.in-Some-Some.ensures.node ∙ ap (λ e. Some (node_of e)) c.in-Some-Some.field-0-is in
    let before = (c.in-Some-Some.ensures.valid.nodes c.args.expression.0 (Exists c.in-Some-Some.field-0-0.0 c.in-Some-Some.filler.0) g).1 in
    (omega (arith, before, c.decreases), c.requires)
