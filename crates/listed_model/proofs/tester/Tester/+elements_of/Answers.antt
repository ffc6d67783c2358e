use Rattle.std.proofs.Common.{◌≡◌, ◌↔◌, ℕ, ◌<◌, List, length, map, Contains, Some, All, true, sym, ap, ◌∙◌, subst, arith}
use Rattle.std.specs.List.Sorted.{IsStrictlyIncreasing}
use Rattle.std.proofs.lemmas.List.{length-map}
use Rattle.std.proofs.lemmas.List.Elements.{All-contains}
use Rattle.std.proofs.lemmas.Option.{none-some}
use Rattle.std.proofs.lemmas.Result.{IfOk-weaker}
use Rattle.lemmas.proofs.Mapped.{Contains-map}
use Rattle.lemmas.proofs.Places.{slice_get_there}
use Rattle.axioms.specs.Ontology.{And, Exists}
use Rattle.axioms.specs.View.{node_of, expr_numbers}
use Rattle.axioms.specs.declared.ids.ExprId.{ExprId}
use Rattle.certificate.specs.View.{listed_of, pair_row_of}
use Rattle.certificate.specs.declared.listed.PairRow.{PairRow}
use Rattle.interpretation_spec.proofs.Steps.{IfOk-both}
use Rattle.number_sets.specs.Pieces.{list_at}
use Rattle.listed_model.specs.Extensions.{IsExtension}
use Rattle.listed_model.specs.Members.{holds}
use Rattle.listed_model.specs.Rows.{ArePairRows, IsHolders, Joined}
use Rattle.listed_model.proofs.Extensions.{and_extension, class_extension, some_extension}
use Rattle.listed_model.proofs.Given.{class_rows_given, pair_rows_given}
use Rattle.listed_model.proofs.tester.Tester.+elements_of.Goals as goal

pub class_elements-requires : goal.class_elements-requires
class_elements-requires t c = class_rows_given c.args.self.now.ontology.now c.args.self.now.listed.now c.requires.ready.listed

pub returns-in-Some-Class : goal.returns-in-Some-Class
returns-in-Some-Class t c =
    let o = c.args.self.now.ontology.now in
    let l = listed_of c.args.self.now.listed.now in
    let e = c.args.expression.0 in
    let g = sym c.in-Some-Class.ensures.node ∙ ap (λ e. Some (node_of e)) c.in-Some-Class.field-0-is in
    IfOk-weaker c.class_elements.result _ _
    (λ v h. subst (IsExtension o l e) (sym h) (class_extension o c.in-Some-Class.ensures.valid l c.requires.ready.listed e c.in-Some-Class.field-0-0.0 g))
    c.class_elements.ensures

pub least_operand-least-requires-clause-rows : goal.least_operand-least-requires-clause-rows
least_operand-least-requires-clause-rows t c = class_rows_given c.args.self.now.ontology.now c.args.self.now.listed.now c.requires.ready.listed

pub least_operand-least-requires-clause-some : goal.least_operand-least-requires-clause-some
least_operand-least-requires-clause-some t c =
    let g = sym c.in-Some-And.ensures.node ∙ ap (λ e. Some (node_of e)) c.in-Some-And.field-0-is in
    let many = (c.in-Some-And.ensures.valid.nodes c.args.expression.0 (And (expr_numbers c.in-Some-And.operands.items)) g).many in
    let e = ap length c.deref.ensures.value in
    omega (arith, length-map c.in-Some-And.operands.items (λ (d : ExprId). d.0))

pub elements_of-requires : goal.elements_of-requires
elements_of-requires t c =
    let g = sym c.in-Some-And.ensures.node ∙ ap (λ e. Some (node_of e)) c.in-Some-And.field-0-is in
    let e = c.args.expression.0 in
    let items = c.deref.result.now in
    let least = c.least_operand-least.result in
    let within = (c.in-Some-And.ensures.valid.nodes e (And (expr_numbers c.in-Some-And.operands.items)) g).within in
    let all : All (λ d. d < e) (expr_numbers items) = subst (λ (ds : List ExprId). All (λ d. d < e) (expr_numbers ds)) (sym c.deref.ensures.value) within in
    let before = All-contains (λ d. d < e) (expr_numbers items) least.0 all (Contains-map (λ (e : ExprId). e.0) items least c.least_operand-least.ensures) in
    let there = c.requires.there in
    (omega (arith, before, c.decreases), (c.requires.ready, omega arith))

pub returns-in_ok-elements-in-Some-And : goal.returns-in_ok-elements-in-Some-And
returns-in_ok-elements-in-Some-And t c =
    let g = sym c.in-Some-And.ensures.node ∙ ap (λ e. Some (node_of e)) c.in-Some-And.field-0-is in
    let o = c.args.self.now.ontology.now in
    let l = listed_of c.args.self.now.listed.now in
    let items = c.in-Some-And.operands.items in
    let least = c.least_operand-least.result in
    let elements = c.deref-in-Some-And.result.now in
    let among = Contains-map (λ (e : ExprId). e.0) items least (subst (λ (es : List ExprId). Contains es least) c.deref.ensures.value c.least_operand-least.ensures) in
    let from : IsExtension o l least.0 elements = subst (IsExtension o l least.0) (sym c.deref-in-Some-And.ensures.value) c.in_ok-elements-in-Some-And.ensures in
    IfOk-weaker c.those_in.result _ _
    (λ v h. and_extension o c.in-Some-And.ensures.valid l c.requires.ready.listed c.args.expression.0 (expr_numbers items) g least.0 among elements v.items from h)
    c.those_in.ensures

pub elements_of-requires-in-Some-Some : goal.elements_of-requires-in-Some-Some
elements_of-requires-in-Some-Some t c =
    let g = sym c.in-Some-Some.ensures.node ∙ ap (λ e. Some (node_of e)) c.in-Some-Some.field-0-is in
    let before = (c.in-Some-Some.ensures.valid.nodes c.args.expression.0 (Exists c.in-Some-Some.property.0 c.in-Some-Some.filler.0) g).1 in
    let there = c.requires.there in
    (omega (arith, before, c.decreases), (c.requires.ready, omega arith))

pub restriction-requires-clause-rows : goal.restriction-requires-clause-rows
restriction-requires-clause-rows t c = subst ArePairRows (sym c.deref-in-Some-Some.ensures.value) (pair_rows_given c.args.self.now.ontology.now c.args.self.now.listed.now c.requires.ready.listed)

pub restriction-requires-clause-fillers : goal.restriction-requires-clause-fillers
restriction-requires-clause-fillers t c = subst IsStrictlyIncreasing (sym c.deref-in-Some-Some-2.ensures.value) c.in_ok-fillers-in-Some-Some.ensures.ascending

pub restriction-requires-clause-holders : goal.restriction-requires-clause-holders
restriction-requires-clause-holders t c = λ y h.
    let below = ((c.in_ok-fillers-in-Some-Some.ensures.members y).0 (ap (λ xs. holds xs y) (sym c.deref-in-Some-Some-2.ensures.value) ∙ h)).0 in
    subst (λ (rows : List PairRow). IsHolders rows y (list_at c.args.self.now.kept.now.holders y)) (sym c.deref-in-Some-Some.ensures.value) (c.requires.ready.kept.holders y below)

pub returns-in_ok-fillers-in-Some-Some : goal.returns-in_ok-fillers-in-Some-Some
returns-in_ok-fillers-in-Some-Some t c =
    let g = sym c.in-Some-Some.ensures.node ∙ ap (λ e. Some (node_of e)) c.in-Some-Some.field-0-is in
    let o = c.args.self.now.ontology.now in
    let l = listed_of c.args.self.now.listed.now in
    let r = c.in-Some-Some.property.0 in
    let d = c.in-Some-Some.filler.0 in
    let fillers = c.deref-in-Some-Some-2.result.now in
    let filled : IsExtension o l d fillers = subst (IsExtension o l d) (sym c.deref-in-Some-Some-2.ensures.value) c.in_ok-fillers-in-Some-Some.ensures in
    IfOk-weaker c.restriction.result _ _
    (λ v h. some_extension o c.in-Some-Some.ensures.valid l c.requires.ready.listed c.args.expression.0 r d g fillers v.items filled h.0
    (subst (λ (rows : List PairRow). (x : ℕ) → (holds v.items x ≡ true) ↔ Joined (map pair_row_of rows) r fillers x) c.deref-in-Some-Some.ensures.value h.1))
    (IfOk-both _ _ c.restriction.result c.restriction.ensures.ascending c.restriction.ensures.members)

pub unreachable-requires : goal.unreachable-requires
unreachable-requires t c =
    let (node, g) = slice_get_there c.args.self.now.ontology.now.nodes c.args.expression.0 c.requires.there in
    none-some node (c.in-None.ensures.node ∙ g)

pub returns-in-Some : goal.returns-in-Some
returns-in-Some t c =
    let e = c.args.expression.0 in
    subst (IsExtension c.args.self.now.ontology.now (listed_of c.args.self.now.listed.now) e) (sym c.in_ok-from_slice.ensures.items) (c.requires.ready.kept.elements e c.in-Some.list.now c.in-Some.ensures)
