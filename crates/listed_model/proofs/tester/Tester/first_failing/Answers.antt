use Rattle.std.proofs.Common.{sym, ap, ◌∙◌, length, map, true≢false, arith}
use Rattle.std.proofs.lemmas.List.{length-map}
use Rattle.axioms.specs.View.{axiom_of}
use Rattle.certificate.specs.View.{listed_of, pair_row_of}
use Rattle.interpretation_spec.proofs.Unsatisfied.{axiom_at, axiom_is_of, first_one, model_of_all, one_more}
use Rattle.listed_model.specs.Interpretations.{listed_interpretation}
use Rattle.listed_model.proofs.Interpreted.{interpretation_is}
use Rattle.listed_model.proofs.tester.Tester.first_failing.Goals as goal

pub loop-index-init : goal.loop-index-init
loop-index-init c = record {
  room = c.in_ok-room.ensures.seen;
  shown = c.in_ok-room.ensures.shown (map pair_row_of c.args.self.now.listed.now.pairs.items);
  so_far = λ k l a g. absurd (omega arith);
}

pub satisfies-requires-clause-of : goal.satisfies-requires-clause-of
satisfies-requires-clause-of c =
    axiom_is_of c.args.self.now.ontology.now c.well_formed-2.ensures c.loop-index.index (axiom_of c.axiom-item.result)
    (axiom_at c.args.self.now.ontology.now c.axioms-axiom-items.result.now c.loop-index.index c.axiom-item.result c.axioms-axiom-items.ensures c.loop-index-test.true c.axiom-item.is)

pub returns-then-not-branch-clause-first : goal.returns-then-not-branch-clause-first
returns-then-not-branch-clause-first c =
    let o = c.args.self.now.ontology.now in
    let i = listed_interpretation o (listed_of c.args.self.now.listed.now) in
    let at = c.loop-index.index in
    let item = c.axiom-item.result in
    first_one o i at (axiom_of item) c.loop-index.invariant.so_far (axiom_at o c.axioms-axiom-items.result.now at item c.axioms-axiom-items.ensures c.loop-index-test.true c.axiom-item.is)
    (λ s. true≢false (sym (c.in_ok-satisfies.ensures.satisfied.1 s) ∙ c.if-not-branch.true))

pub loop-index-preserved : goal.loop-index-preserved
loop-index-preserved c =
    let o = c.args.self.now.ontology.now in
    let i = listed_interpretation o (listed_of c.args.self.now.listed.now) in
    let at = c.loop-index.index in
    let item = c.axiom-item.result in
    record {
      room = c.in_ok-satisfies.ensures.len ∙ c.loop-index.invariant.room;
      shown = c.in_ok-satisfies.ensures.shown;
      so_far = one_more o i at (axiom_of item) c.loop-index.invariant.so_far (axiom_at o c.axioms-axiom-items.result.now at item c.axioms-axiom-items.ensures c.loop-index-test.true c.axiom-item.is)
          (c.in_ok-satisfies.ensures.satisfied.0 c.if-not-branch.false);
    }

pub returns-clause-model : goal.returns-clause-model
returns-clause-model c = λ _.
    let o = c.args.self.now.ontology.now in
    let l = listed_of c.args.self.now.listed.now in
    let items = c.axioms-axiom-items.result.now in
    let many = ap length c.axioms-axiom-items.ensures in
    model_of_all o (listed_interpretation o l) (interpretation_is o c.well_formed-2.ensures l c.requires.ready.listed) (λ k b. c.loop-index.invariant.so_far k (omega (arith, many, length-map items axiom_of)))
