use Rattle.std.proofs.Common.{sym, ap, ◌∙◌, length, true≢false, arith}
use Rattle.std.proofs.lemmas.List.{length-map}
use Rattle.axioms.specs.View.{axiom_of}
use Rattle.interpretation_spec.specs.NamedInterpretation.{interpretation_of}
use Rattle.interpretation_spec.proofs.Names.{stands_well}
use Rattle.interpretation_spec.proofs.Unsatisfied.{axiom_at, axiom_is_of, first_one, model_of_all, one_more}
use Rattle.interpretation_spec.proofs.interpretation.Interpretation.first_unsatisfied.Goals as goal

pub satisfies-requires-clause-of : goal.satisfies-requires-clause-of
satisfies-requires-clause-of c =
    let o = c.args.ontology.now in
    let at = c.loop-index.index in
    let item = c.axiom-item.result in
    axiom_is_of o c.well_formed-2.ensures at (axiom_of item) (axiom_at o c.axioms-axiom-items.result.now at item c.axioms-axiom-items.ensures c.loop-index-test.true c.axiom-item.is)

pub returns-then-not-branch-clause-first : goal.returns-then-not-branch-clause-first
returns-then-not-branch-clause-first c =
    let o = c.args.ontology.now in
    let at = c.loop-index.index in
    let item = c.axiom-item.result in
    first_one o (interpretation_of o.names c.args.self.now) at (axiom_of item) c.loop-index.invariant (axiom_at o c.axioms-axiom-items.result.now at item c.axioms-axiom-items.ensures c.loop-index-test.true c.axiom-item.is)
    (λ s. true≢false (sym (c.in_ok-satisfies.ensures.1 s) ∙ c.if-not-branch.true))

pub loop-index-preserved : goal.loop-index-preserved
loop-index-preserved c =
    let o = c.args.ontology.now in
    let at = c.loop-index.index in
    let item = c.axiom-item.result in
    one_more o (interpretation_of o.names c.args.self.now) at (axiom_of item) c.loop-index.invariant (axiom_at o c.axioms-axiom-items.result.now at item c.axioms-axiom-items.ensures c.loop-index-test.true c.axiom-item.is)
    (c.in_ok-satisfies.ensures.0 c.if-not-branch.false)

pub returns-clause-model : goal.returns-clause-model
returns-clause-model c = λ _.
    let o = c.args.ontology.now in
    let items = c.axioms-axiom-items.result.now in
    let many = ap length c.axioms-axiom-items.ensures in
    model_of_all o (interpretation_of o.names c.args.self.now) (stands_well o c.well_formed-2.ensures c.args.self.now c.well_formed-3.ensures)
    (λ k l. c.loop-index.invariant k (omega (arith, many, length-map items axiom_of)))
