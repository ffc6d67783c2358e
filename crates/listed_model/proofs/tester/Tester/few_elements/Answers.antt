use Rattle.std.proofs.Common.{◌≡◌, ◌↔◌, ℕ, List, Contains, Some, map, true, sym, ap, ◌∙◌, subst}
use Rattle.std.proofs.lemmas.Option.{IfSome_then, none-some}
use Rattle.std.proofs.lemmas.Result.{IfOk-weaker}
use Rattle.lemmas.proofs.Mapped.{Contains-map}
use Rattle.lemmas.proofs.Places.{slice_get_there}
use Rattle.axioms.specs.View.{node_of, expr_numbers}
use Rattle.axioms.specs.declared.ids.ExprId.{ExprId}
use Rattle.certificate.specs.View.{listed_of, pair_row_of}
use Rattle.certificate.specs.declared.listed.PairRow.{PairRow}
use Rattle.number_sets.specs.Pieces.{list_at}
use Rattle.listed_model.specs.Extensions.{IsExtension}
use Rattle.listed_model.specs.Members.{holds}
use Rattle.listed_model.specs.Rows.{ArePairRows, IsHolders, Joined}
use Rattle.listed_model.proofs.Extensions.{class_extension, and_extension, some_extension}
use Rattle.listed_model.proofs.Given.{class_rows_given, pair_rows_given}
use Rattle.listed_model.proofs.Held.{all_below}
use Rattle.listed_model.proofs.tester.Tester.few_elements.Goals as goal

pub class_elements-requires : goal.class_elements-requires
class_elements-requires c = class_rows_given c.args.self.now.ontology.now c.args.self.now.listed.now c.requires.ready.listed

pub returns-in_ok-elements-in-Some-Class : goal.returns-in_ok-elements-in-Some-Class
returns-in_ok-elements-in-Some-Class c =
    let o = c.args.self.now.ontology.now in
    let l = listed_of c.args.self.now.listed.now in
    let e = c.args.expression.0 in
    let g = sym c.in-Some-Class.ensures.node ∙ ap (λ e. Some (node_of e)) c.in-Some-Class.field-0-is in
    subst (IsExtension o l e) (sym c.in_ok-elements-in-Some-Class.ensures) (class_extension o c.in-Some-Class.ensures.valid l c.requires.ready.listed e c.in-Some-Class.field-0-0.0 g)

pub returns-in_ok-those-in-Some-And : goal.returns-in_ok-those-in-Some-And
returns-in_ok-those-in-Some-And c =
    let o = c.args.self.now.ontology.now in
    let l = listed_of c.args.self.now.listed.now in
    let g = sym c.in-Some-And.ensures.node ∙ ap (λ e. Some (node_of e)) c.in-Some-And.field-0-is in
    let items = c.in-Some-And.operands.items in
    let least = c.in-Some.least in
    let elements = c.in-Some-at.elements.now in
    let from = c.requires.ready.kept.elements least.0 elements c.in-Some-at.ensures in
    let among = Contains-map (λ (e : ExprId). e.0) items least (subst (λ (es : List ExprId). Contains es least) c.deref.ensures.value c.in-Some.ensures) in
    and_extension o c.in-Some-And.ensures.valid l c.requires.ready.listed c.args.expression.0 (expr_numbers items) g least.0 among elements c.in_ok-those-in-Some-And.those.items from
    c.in_ok-those-in-Some-And.ensures

pub few_sources-requires-clause-rows : goal.few_sources-requires-clause-rows
few_sources-requires-clause-rows c = subst ArePairRows (sym c.deref-in-Some-Some.ensures.value) (pair_rows_given c.args.self.now.ontology.now c.args.self.now.listed.now c.requires.ready.listed)

pub few_sources-requires-clause-holders : goal.few_sources-requires-clause-holders
few_sources-requires-clause-holders c = λ y h.
    let filled = c.requires.ready.kept.elements c.in-Some-Some.filler.0 c.in-Some-at-2.fillers.now c.in-Some-at-2.ensures in
    subst (λ (rows : List PairRow). IsHolders rows y (list_at c.args.self.now.kept.now.holders y)) (sym c.deref-in-Some-Some.ensures.value) (c.requires.ready.kept.holders y ((filled.members y).0 h).0)

pub few_sources-requires-clause-fillers : goal.few_sources-requires-clause-fillers
few_sources-requires-clause-fillers c =
    (c.requires.ready.kept.elements c.in-Some-Some.filler.0 c.in-Some-at-2.fillers.now c.in-Some-at-2.ensures).ascending

pub returns-in-Some-at-2 : goal.returns-in-Some-at-2
returns-in-Some-at-2 c =
    let o = c.args.self.now.ontology.now in
    let l = listed_of c.args.self.now.listed.now in
    let e = c.args.expression.0 in
    let g = sym c.in-Some-Some.ensures.node ∙ ap (λ e. Some (node_of e)) c.in-Some-Some.field-0-is in
    let r = c.in-Some-Some.property.0 in
    let d = c.in-Some-Some.filler.0 in
    let fillers = c.in-Some-at-2.fillers.now in
    let filled = c.requires.ready.kept.elements d fillers c.in-Some-at-2.ensures in
    IfOk-weaker c.few_sources.result _ _
    (λ v said. IfSome_then v said (λ sources h. some_extension o c.in-Some-Some.ensures.valid l c.requires.ready.listed e r d g fillers sources.items filled h.0
    (subst (λ (rows : List PairRow). (x : ℕ) → (holds sources.items x ≡ true) ↔ Joined (map pair_row_of rows) r fillers x) c.deref-in-Some-Some.ensures.value h.1)))
    c.few_sources.ensures

pub unreachable-requires : goal.unreachable-requires
unreachable-requires c =
    let (node, g) = slice_get_there c.args.self.now.ontology.now.nodes c.args.expression.0 c.requires.there in
    none-some node (c.in-None.ensures.node ∙ g)

pub those_in-requires-clause-elements : goal.those_in-requires-clause-elements
those_in-requires-clause-elements c =
    let least = c.in-Some.least.0 in
    let elements = c.in-Some-at.elements.now in
    all_below c.args.self.now.ontology.now (listed_of c.args.self.now.listed.now) least elements (c.requires.ready.kept.elements least elements c.in-Some-at.ensures)
