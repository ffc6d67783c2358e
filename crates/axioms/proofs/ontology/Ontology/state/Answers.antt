use Rattle.std.proofs.Common.{◌∷◌, [], map, refl, sym, subst, ap, ◌∙◌, arith}
use Rattle.std.proofs.lemmas.List.{length-map, map-append}
use Rattle.axioms.specs.Growth.{with_axiom}
use Rattle.axioms.specs.Fields.{kept_ontology}
use Rattle.axioms.specs.View.{axiom_of}
use Rattle.axioms.specs.WellFormedness.{IsAxiomOf}
use Rattle.axioms.proofs.Growing.{with_axiom_is}
use Rattle.axioms.proofs.Keeping.{bounded_with_axiom, kept_as, same_ontology, table_of}
use Rattle.axioms.proofs.ontology.Ontology.state.Goals as goal

pub invariant_of-self-2 : goal.invariant_of-self-2
invariant_of-self-2 c =
    let o = kept_ontology c.self.inside in
    let axiom' = axiom_of c.args.axiom in
    let fits = subst (λ p. IsAxiomOf p axiom') (sym c.self.view_is) c.requires in
    let longer = ap (map axiom_of) c.in_ok-push.ensures.items ∙ map-append axiom_of c.self.inside.axioms.items (c.args.axiom ∷ []) in
    kept_as _ (with_axiom o axiom') (same_ontology _ (with_axiom o axiom') refl refl refl refl longer) (with_axiom_is o c.self.invariant.ontology axiom' fits)
    (bounded_with_axiom o axiom' c.self.invariant.bounded (omega (arith, length-map c.self.inside.axioms.items axiom_of))) (table_of c.self.inside c.self.invariant)
