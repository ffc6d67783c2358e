use Rattle.std.proofs.Common.{◌≡◌, ◌++◌, ℕ, List, OnOk, ap, sym, ◌∙◌, subst}
use Rattle.std.specs.List.{flat_map}
use Rattle.std.proofs.lemmas.List.{append-nil, take_all}
use Rattle.axioms.specs.View.{expr_numbers}
use Rattle.statements_text.specs.Texts.{statement_line}
use Rattle.inferred_text.proofs.Operands.{AreClassesAt, are_operands, line_of_operands, nothing_said, pushed}
use Rattle.inferred_text.proofs.classes.push_sameness.Goals as goal

pub returns-then-classes-lt2 : goal.returns-then-classes-lt2
returns-then-classes-lt2 c =
    let out = c.args.out.now.items in
    sym (append-nil out) ∙ ap (λ ss. out ++ flat_map statement_line ss) (sym (nothing_said c.args.ontology.now.names c.args.classes.now c.if-classes-lt2.true))

pub expression_of-requires : goal.expression_of-requires
expression_of-requires c = c.requires.within c.loop-class.class-index 0 c.loop-class-test.true

pub loop-class-preserved : goal.loop-class-preserved
loop-class-preserved c =
    pushed c.args.ontology.now c.args.classes.now c.loop-class.class-index c.loop-class.operands.items c.push.new.self.items c.expression_of.result c.loop-class-test.true
    c.in_ok-push.ensures.items c.loop-class.invariant c.expression_of.ensures.class c.expression_of.ensures.within

pub push_axiom-requires : goal.push_axiom-requires
push_axiom-requires c =
    let o = c.args.ontology.now in
    let classes = c.args.classes.now in
    let numbers = expr_numbers c.loop-class.operands.items in
    let found = subst (λ cs. AreClassesAt o cs numbers) (take_all c.loop-class.class-index classes c.loop-class-test.false) c.loop-class.invariant in
    are_operands o classes numbers found c.if-classes-lt2.false c.requires.distinct

pub returns : goal.returns
returns c =
    let o = c.args.ontology.now in
    let classes = c.args.classes.now in
    let numbers = expr_numbers c.loop-class.operands.items in
    let found = subst (λ cs. AreClassesAt o cs numbers) (take_all c.loop-class.class-index classes c.loop-class-test.false) c.loop-class.invariant in
    subst (λ (t : List ℕ). OnOk c.push_axiom.result (c.push_axiom.new.out.items ≡ c.args.out.now.items ++ t))
    (line_of_operands o classes numbers found c.if-classes-lt2.false) c.push_axiom.ensures
