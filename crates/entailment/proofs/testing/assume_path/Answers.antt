use Rattle.std.proofs.Common.{◌≡◌, ◌+◌, ℕ, get_or, slice_get, Some, subst, sym, arith}
use Rattle.std.proofs.lemmas.Option.{slice_get-get_or}
use Rattle.axioms.specs.Ontology.{Ontology, PropertyAssertion}
use Rattle.axioms.specs.View.{prop_numbers}
use Rattle.axioms.specs.WellFormedness.{IsAxiomOf}
use Rattle.axioms.specs.declared.ids.PropId.{PropId}
use Rattle.entailment.proofs.Building.{path_pushed, step_there}
use Rattle.lemmas.proofs.Mapped.{slice_get_map}
use Rattle.entailment.proofs.testing.assume_path.Goals as goal

pub add_axiom-requires : goal.add_axiom-requires
add_axiom-requires c =
    let chain = c.args.chain.now in
    let k = c.loop-property.property-index in
    let p : PropId = get_or chain k (record { 0 = 0 }) in
    let at : slice_get chain k ≡ Some p = slice_get-get_or chain k (record { 0 = 0 }) (omega arith) in
    let Q : Ontology → ℕ → Type 0 = λ o n. IsAxiomOf o (PropertyAssertion p.0 n (n + 1)) in
    let here = step_there c.args.builder.now c.args.first.0 (prop_numbers chain) k p.0 c.requires.there (slice_get_map (λ (q : PropId). q.0) chain k p at) in
    subst (λ o. Q o c.loop-property.source.0) (sym c.loop-property.invariant.0) (subst (Q c.args.builder.now) (sym c.loop-property.invariant.1) here)

pub loop-property-preserved : goal.loop-property-preserved
loop-property-preserved c =
    let chain = c.args.chain.now in
    let k = c.loop-property.property-index in
    let p : PropId = get_or chain k (record { 0 = 0 }) in
    let at : slice_get chain k ≡ Some p = slice_get-get_or chain k (record { 0 = 0 }) (omega arith) in (
      path_pushed c.args.builder.now c.loop-property.builder _ c.args.first.0 k c.loop-property.source.0 chain p at c.loop-property.invariant.1 c.loop-property.invariant.0 c.in_ok-add_axiom.ensures.ok,
      omega (arith, c.loop-property.invariant.1),
    )
