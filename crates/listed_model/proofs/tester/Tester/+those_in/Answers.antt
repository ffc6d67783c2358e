use Rattle.std.proofs.Common.{◌≡◌, inl, inr, ℕ, ◌<◌, List, get_or, Some, All, sym, ap, ◌∙◌, subst, arith}
use Rattle.std.specs.List.Sorted.{IsStrictlyIncreasing}
use Rattle.std.proofs.lemmas.Bool.{cases_lt}
use Rattle.std.proofs.lemmas.Option.{none-some}
use Rattle.std.proofs.lemmas.Result.{IfOk-weaker}
use Rattle.lemmas.proofs.Places.{slice_get_there}
use Rattle.axioms.specs.Ontology.{And, Exists}
use Rattle.axioms.specs.View.{node_of, expr_numbers}
use Rattle.axioms.specs.declared.ids.ExprId.{ExprId}
use Rattle.certificate.specs.View.{listed_of}
use Rattle.interpretation_spec.proofs.Steps.{IfOk-both}
use Rattle.listed_model.specs.Extensions.{IsElement}
use Rattle.listed_model.specs.Members.{holds}
use Rattle.listed_model.specs.Rows.{ArePairRows}
use Rattle.listed_model.proofs.Extensions.{class_extension, and_elements, some_elements, target_within}
use Rattle.listed_model.proofs.Given.{class_rows_given, pair_rows_given}
use Rattle.listed_model.proofs.Held.{those_of}
use Rattle.listed_model.proofs.Passed.{each_place}
use Rattle.listed_model.proofs.tester.Tester.+those_in.Goals as goal

pub returns-in-Some : goal.returns-in-Some
returns-in-Some t c =
    let o = c.args.self.now.ontology.now in
    let e = c.args.expression.0 in
    let list = c.in-Some.list.now in
    let from = c.requires.ready.kept.elements e list c.in-Some.ensures in
    IfOk-weaker c.common.result _ _ (λ v h. those_of o (listed_of c.args.self.now.listed.now) e list from c.args.elements.now v.items c.requires.elements.ascending h) c.common.ensures

pub class_among-requires-clause-rows : goal.class_among-requires-clause-rows
class_among-requires-clause-rows t c = class_rows_given c.args.self.now.ontology.now c.args.self.now.listed.now c.requires.ready.listed

pub returns-in-Some-Class : goal.returns-in-Some-Class
returns-in-Some-Class t c =
    let o = c.args.self.now.ontology.now in
    let l = listed_of c.args.self.now.listed.now in
    let g = sym c.in-Some-Class.ensures.node ∙ ap (λ e. Some (node_of e)) c.in-Some-Class.field-0-is in
    let from = class_extension o c.in-Some-Class.ensures.valid l c.requires.ready.listed c.args.expression.0 c.in-Some-Class.field-0-0.0 g in
    IfOk-weaker c.class_among.result _ _
    (λ v h. record {
      ascending = h.0;
      members = λ x. (
        λ m. (let (a, b) = (h.1 x).0 m in (a, (from.members x).0 b)),
        λ (a, b). (h.1 x).1 (a, (from.members x).1 b),
      );
    })
    (IfOk-both _ _ c.class_among.result c.class_among.ensures.ascending c.class_among.ensures.members)

pub loop-operand-init : goal.loop-operand-init
loop-operand-init t c =
    let is = c.in_ok-those-in-Some-And.ensures.items in
    record {
      ascending = subst IsStrictlyIncreasing (sym is) c.requires.elements.ascending;
      members = λ x. (
        λ h. (ap (λ xs. holds xs x) (sym is) ∙ h, λ k b. absurd (omega arith)),
        λ (h, each). ap (λ xs. holds xs x) is ∙ h,
      );
    }

pub those_in-requires : goal.those_in-requires
those_in-requires t c =
    let g = sym c.in-Some-And.ensures.node ∙ ap (λ e. Some (node_of e)) c.in-Some-And.field-0-is in
    let e = c.args.expression.0 in
    let items = c.deref-operand-items.result.now in
    let within = (c.in-Some-And.ensures.valid.nodes e (And (expr_numbers c.in-Some-And.operands.items)) g).within in
    let all : All (λ d. d < e) (expr_numbers items) = subst (λ (ds : List ExprId). All (λ d. d < e) (expr_numbers ds)) (sym c.deref-operand-items.ensures.value) within in
    let before = (each_place (λ d. d < e) items).1 all c.loop-operand.operand-index c.loop-operand-test.true in
    let there = c.requires.there in
    let value = c.deref.ensures.value in
    let old = c.loop-operand.invariant in (
      omega (arith, before, c.decreases),
      (
        c.requires.ready,
        (
          omega arith,
          record {
            ascending = subst IsStrictlyIncreasing (sym value) old.ascending;
            within = λ x h. c.requires.elements.within x ((old.members x).0 (ap (λ xs. holds xs x) (sym value) ∙ h)).0;
          },
        ),
      ),
    )

pub loop-operand-preserved : goal.loop-operand-preserved
loop-operand-preserved t c =
    let o = c.args.self.now.ontology.now in
    let l = listed_of c.args.self.now.listed.now in
    let items = c.deref-operand-items.result.now in
    let none : ExprId = record { 0 = 0 } in
    let at = c.loop-operand.operand-index in
    let value = c.deref.ensures.value in
    let old = c.loop-operand.invariant in
    let said = c.in_ok-those-in-Some-And-2.ensures in
    record {
      ascending = said.ascending;
      members = λ x.
          let Here : ℕ → Type 0 = λ (k : ℕ). IsElement o l (get_or items k none).0 x in (
            λ h.
                let (m, one) = (said.members x).0 h in
                let (a, each) = (old.members x).0 (ap (λ xs. holds xs x) (sym value) ∙ m) in (
                  a,
                  λ k b. elim (cases_lt k at) [
                    | inl lk ↦ each k lk
                    | inr lk ↦ (let e : at ≡ k = omega arith in subst Here e one)
                  ],
                ),
            λ (a, each). (said.members x).1 (ap (λ xs. holds xs x) value ∙ (old.members x).1 (a, λ k b. each k (omega arith)), each at (omega arith)),
          );
    }

pub returns-after-loop-operand : goal.returns-after-loop-operand
returns-after-loop-operand t c =
    let o = c.args.self.now.ontology.now in
    let l = listed_of c.args.self.now.listed.now in
    let g = sym c.in-Some-And.ensures.node ∙ ap (λ e. Some (node_of e)) c.in-Some-And.field-0-is in
    let ds = expr_numbers c.in-Some-And.operands.items in
    let items = c.deref-operand-items.result.now in
    let value = c.deref-operand-items.ensures.value in
    let old = c.loop-operand.invariant in
    let end = c.loop-operand.auto.operand-index-end in
    record {
      ascending = old.ascending;
      members = λ x.
          let both = and_elements o c.in-Some-And.ensures.valid l c.requires.ready.listed c.args.expression.0 ds g x in
          let P : ℕ → Type 0 = λ (d : ℕ). IsElement o l d x in
          let Q : List ExprId → Type 0 = λ (ds : List ExprId). All P (expr_numbers ds) in (
            λ h. (let (a, each) = (old.members x).0 h in (a, both.1 (subst Q value ((each_place P items).0 (λ k b. each k (omega (arith, b, c.loop-operand-test.false))))))),
            λ (a, e). (old.members x).1 (a, λ k b. (each_place P items).1 (subst Q (sym value) (both.0 e)) k (omega arith)),
          );
    }

pub targets_from-requires : goal.targets_from-requires
targets_from-requires t c = subst ArePairRows (sym c.deref-in-Some-Some.ensures.value) (pair_rows_given c.args.self.now.ontology.now c.args.self.now.listed.now c.requires.ready.listed)

pub those_in-requires-in-Some-Some : goal.those_in-requires-in-Some-Some
those_in-requires-in-Some-Some t c =
    let g = sym c.in-Some-Some.ensures.node ∙ ap (λ e. Some (node_of e)) c.in-Some-Some.field-0-is in
    let o = c.args.self.now.ontology.now in
    let l = listed_of c.args.self.now.listed.now in
    let w = c.in-Some-Some.ensures.valid in
    let r = c.in-Some-Some.property.0 in
    let before = (w.nodes c.args.expression.0 (Exists r c.in-Some-Some.filler.0) g).1 in
    let there = c.requires.there in
    let value = c.deref-in-Some-Some-2.ensures.value in
    let led = rw c.deref-in-Some-Some.ensures.value at c.in_ok-targets-in-Some-Some.ensures.members in (
      omega (arith, before, c.decreases),
      (
        c.requires.ready,
        (
          omega arith,
          record {
            ascending = subst IsStrictlyIncreasing (sym value) c.in_ok-targets-in-Some-Some.ensures.ascending;
            within = λ y h. (let (x, m, u) = (led y).0 (ap (λ xs. holds xs y) (sym value) ∙ h) in (target_within o w l c.requires.ready.listed r x y u).1);
          },
        ),
      ),
    )

pub joined_among-requires-clause-rows : goal.joined_among-requires-clause-rows
joined_among-requires-clause-rows t c = subst ArePairRows (sym c.deref-in-Some-Some-3.ensures.value) (pair_rows_given c.args.self.now.ontology.now c.args.self.now.listed.now c.requires.ready.listed)

pub returns-in_ok-fillers-in-Some-Some : goal.returns-in_ok-fillers-in-Some-Some
returns-in_ok-fillers-in-Some-Some t c =
    let g = sym c.in-Some-Some.ensures.node ∙ ap (λ e. Some (node_of e)) c.in-Some-Some.field-0-is in
    let o = c.args.self.now.ontology.now in
    let l = listed_of c.args.self.now.listed.now in
    let r = c.in-Some-Some.property.0 in
    let d = c.in-Some-Some.filler.0 in
    let led = rw c.deref-in-Some-Some.ensures.value at c.in_ok-targets-in-Some-Some.ensures.members in
    let filled = rw c.deref-in-Some-Some-2.ensures.value at c.in_ok-fillers-in-Some-Some.ensures in
    let joined = rw (c.deref-in-Some-Some-3.ensures.value, c.deref-in-Some-Some-4.ensures.value) at c.joined_among.ensures.members in
    IfOk-weaker c.joined_among.result _ _
    (λ v h. record {
      ascending = h.0;
      members = λ x.
          let some = some_elements o c.in-Some-Some.ensures.valid l c.requires.ready.listed c.args.expression.0 r d g x in (
            λ m. (let (a, (y, u, f)) = (h.1 x).0 m in (a, some.1 (y, u, ((filled.members y).0 f).1))),
            λ (a, e). (let (y, u, f) = some.0 e in (h.1 x).1 (a, (y, u, (filled.members y).1 ((led y).1 (x, a, u), f)))),
          );
    })
    (IfOk-both _ _ c.joined_among.result c.joined_among.ensures.ascending joined)

pub unreachable-requires : goal.unreachable-requires
unreachable-requires t c =
    let (node, g) = slice_get_there c.args.self.now.ontology.now.nodes c.args.expression.0 c.requires.there in
    none-some node (c.in-None.ensures.node ∙ g)

pub common-requires : goal.common-requires
common-requires t c = (c.requires.ready.kept.elements c.args.expression.0 c.in-Some.list.now c.in-Some.ensures).ascending
