use Rattle.std.proofs.Common.{◌≡◌, ◌<◌, ℕ, List, [], Bool, Some, All, sym, ap, ◌∙◌, subst, get_or, length, arith}
use Rattle.std.specs.List.{list_any}
use Rattle.std.proofs.lemmas.Bool.{and_parts, and_from}
use Rattle.std.proofs.lemmas.List.{take_all}
use Rattle.std.proofs.lemmas.List.Elements.{All-more, All-map}
use Rattle.std.proofs.lemmas.Option.{none-some}
use Rattle.std.proofs.lemmas.Result.{IfOk-weaker}
use Rattle.lemmas.proofs.Mapped.{All-from_map}
use Rattle.lemmas.proofs.Places.{slice_get_there}
use Rattle.axioms.specs.declared.ids.ExprId.{ExprId}
use Rattle.axioms.specs.View.{expr_numbers, node_of}
use Rattle.axioms.specs.Ontology.{Class, And, Exists, expression}
use Rattle.interpretation_spec.specs.Interpretation.{IsIn}
use Rattle.interpretation_spec.specs.NumberedInterpretation.{NumberedInterpretation, IsNumberedInterpretation, members_of, targets_of}
use Rattle.interpretation_spec.specs.NamedInterpretation.{IsExtension, interpretation_of}
use Rattle.number_sets.specs.Members.{has}
use Rattle.interpretation_spec.proofs.Names.{stands}
use Rattle.interpretation_spec.proofs.Elements.{class_elements, some_elements, and_elements}
use Rattle.interpretation_spec.proofs.Steps.{all_step, IfOk-both}
use Rattle.interpretation_spec.proofs.interpretation.Interpretation.+extension.Goals as goal

pub index-requires : goal.index-requires
index-requires t c =
    let w = c.in-Some-Class.ensures.valid in
    let g = sym c.in-Some-Class.ensures.node ∙ ap (λ e. Some (node_of e)) c.in-Some-Class.field-0-is in
    let l = w.nodes c.args.expression.0 (Class c.in-Some-Class.class.0) g in
    omega (arith, l, c.requires.made_for.classes, ap (λ (i : NumberedInterpretation). length i.classes) c.self.view_is)

pub extension-requires : goal.extension-requires
extension-requires t c =
    let w = c.in-Some-And.ensures.valid in
    let e = c.args.expression.0 in
    let operands = c.in-Some-And.operands.items in
    let g = sym c.in-Some-And.ensures.node ∙ ap (λ e. Some (node_of e)) c.in-Some-And.field-0-is in
    let all = All-from_map (λ (x : ℕ). x < e) (λ (x : ExprId). x.0) operands (w.nodes e (And (expr_numbers operands)) g).within in
    let before = subst (λ (xs : List ExprId). All (λ (x : ExprId). x.0 < e) xs) (sym c.deref-operand-items.ensures.value) all in
    let l = before c.loop-operand.operand-index record { 0 = 0 } c.loop-operand-test.true in
    (omega (arith, l, c.decreases), (c.requires.made_for, omega (arith, l, c.requires.there)))

pub intersect-requires : goal.intersect-requires
intersect-requires t c = c.loop-operand.invariant.long ∙ sym (c.in_ok-members-in-Some-And.ensures.long ∙ (stands c.args.ontology.now c.in-Some-And.ensures.valid c.args.self.now).size)

pub loop-operand-preserved : goal.loop-operand-preserved
loop-operand-preserved t c =
    let o = c.args.ontology.now in
    let n = c.args.self.now in
    let i = interpretation_of o.names n in
    let size = (stands o c.in-Some-And.ensures.valid n).size in
    let items = c.deref-operand-items.result.now in
    let at = c.loop-operand.operand-index in
    let more = c.in_ok-members-in-Some-And.ensures in
    record {
      long = c.intersect.ensures.len ∙ c.loop-operand.invariant.long;
      members = λ x l.
          let P : ExprId → Type 0 = λ (e : ExprId). IsIn i (expression o e.0) x in
          let l' : x < i.size = subst (λ (k : ℕ). x < k) (sym size) l in
          let old = has c.loop-operand.row x in
          let new = has c.in_ok-members-in-Some-And.members x in (
            λ h.
                let (p, q) = and_parts old new (sym (c.intersect.ensures.members x) ∙ h) in
                All-more P items at record { 0 = 0 } c.loop-operand-test.true ((c.loop-operand.invariant.members x l).0 p) ((more.members x l').0 q),
            λ h.
                let (p, q) = all_step P items at record { 0 = 0 } c.loop-operand-test.true h in
                c.intersect.ensures.members x ∙ and_from old new ((c.loop-operand.invariant.members x l).1 p) ((more.members x l').1 q),
          );
    }

pub extension-requires-in-Some-Some : goal.extension-requires-in-Some-Some
extension-requires-in-Some-Some t c =
    let w = c.in-Some-Some.ensures.valid in
    let g = sym c.in-Some-Some.ensures.node ∙ ap (λ e. Some (node_of e)) c.in-Some-Some.field-0-is in
    let (r, l) = w.nodes c.args.expression.0 (Exists c.in-Some-Some.property.0 c.in-Some-Some.filler.0) g in
    (omega (arith, l, c.decreases), (c.requires.made_for, omega (arith, c.requires.there, l)))

pub sources-requires : goal.sources-requires
sources-requires t c =
    let w = c.in-Some-Some.ensures.valid in
    let g = sym c.in-Some-Some.ensures.node ∙ ap (λ e. Some (node_of e)) c.in-Some-Some.field-0-is in
    let (r, l) = w.nodes c.args.expression.0 (Exists c.in-Some-Some.property.0 c.in-Some-Some.filler.0) g in
    omega (arith, r, c.requires.made_for.properties)

pub unreachable-requires : goal.unreachable-requires
unreachable-requires t c =
    let (node, g) = slice_get_there c.args.ontology.now.nodes c.args.expression.0 c.requires.there in
    none-some node (c.in-None.ensures.node ∙ g)

pub at-requires : goal.at-requires
at-requires t c =
    let w = c.in-Some-Class.ensures.valid in
    let g = sym c.in-Some-Class.ensures.node ∙ ap (λ e. Some (node_of e)) c.in-Some-Class.field-0-is in
    let l = w.nodes c.args.expression.0 (Class c.in-Some-Class.class.0) g in
    omega (arith, l, c.requires.made_for.classes, ap (λ (i : NumberedInterpretation). length i.classes) c.self.view_is)

pub returns-in-Some-Class : goal.returns-in-Some-Class
returns-in-Some-Class t c =
    let o = c.args.ontology.now in
    let n = c.args.self.now in
    let i = interpretation_of o.names n in
    let e = c.args.expression.0 in
    let k = c.in-Some-Class.class.0 in
    let w = c.in-Some-Class.ensures.valid in
    let g = sym c.in-Some-Class.ensures.node ∙ ap (λ e. Some (node_of e)) c.in-Some-Class.field-0-is in
    let whole = subst IsNumberedInterpretation c.self.view_is c.self.invariant in
    let read = c.at.ensures ∙ ap (λ (n : ℕ). get_or c.self.inside.classes n []) c.index.ensures ∙ ap (λ (i : NumberedInterpretation). members_of i k) c.self.view_is in
    IfOk-weaker c.copy.result (λ (row : List Bool). row ≡ c.at.result.now) (IsExtension i (expression o e))
    (λ row h. subst (IsExtension i (expression o e)) (sym (h ∙ read)) (class_elements o w n whole c.requires.made_for e k g))
    c.copy.ensures

pub returns-after-loop-operand : goal.returns-after-loop-operand
returns-after-loop-operand t c =
    let o = c.args.ontology.now in
    let n = c.args.self.now in
    let i = interpretation_of o.names n in
    let e = c.args.expression.0 in
    let operands = c.in-Some-And.operands.items in
    let g = sym c.in-Some-And.ensures.node ∙ ap (λ e. Some (node_of e)) c.in-Some-And.field-0-is in
    let whole = subst IsNumberedInterpretation c.self.view_is c.self.invariant in
    let read = take_all c.loop-operand.operand-index c.deref-operand-items.result.now c.loop-operand-test.false ∙ c.deref-operand-items.ensures.value in
    and_elements o c.in-Some-And.ensures.valid n whole c.requires.made_for e (expr_numbers operands) g c.loop-operand.row c.loop-operand.invariant.long
    (λ x l.
    let P : ℕ → Type 0 = λ (d : ℕ). IsIn i (expression o d) x in
    let Q : ExprId → Type 0 = λ (d : ExprId). P d.0 in
    let (f, b) = c.loop-operand.invariant.members x l in (
      λ h. All-map P (λ (d : ExprId). d.0) operands (subst (λ (ds : List ExprId). All Q ds) read (f h)),
      λ h. b (subst (λ (ds : List ExprId). All Q ds) (sym read) (All-from_map P (λ (d : ExprId). d.0) operands h)),
    ))

pub returns-in_ok-fillers-in-Some-Some : goal.returns-in_ok-fillers-in-Some-Some
returns-in_ok-fillers-in-Some-Some t c =
    let o = c.args.ontology.now in
    let n = c.args.self.now in
    let i = interpretation_of o.names n in
    let e = c.args.expression.0 in
    let r = c.in-Some-Some.property.0 in
    let d = c.in-Some-Some.filler.0 in
    let fillers = c.in_ok-fillers-in-Some-Some.fillers in
    let g = sym c.in-Some-Some.ensures.node ∙ ap (λ e. Some (node_of e)) c.in-Some-Some.field-0-is in
    let whole = subst IsNumberedInterpretation c.self.view_is c.self.invariant in
    let Long : List Bool → Type 0 = λ (row : List Bool). length row ≡ n.size in
    let Members : List Bool → Type 0 = λ (row : List Bool). (x : ℕ) → x < n.size → has row x ≡ list_any (has fillers) (targets_of n r x) in
    IfOk-weaker c.sources.result (λ (row : List Bool). Long row × Members row) (IsExtension i (expression o e))
    (λ row h. some_elements o c.in-Some-Some.ensures.valid n whole c.requires.made_for e r d g fillers row c.in_ok-fillers-in-Some-Some.ensures h.0 h.1)
    (IfOk-both Long Members c.sources.result c.sources.ensures.long c.sources.ensures.members)
