use Rattle.std.proofs.Common.{length, refl, sym, subst, arith}
use Rattle.lemmas.proofs.Places.{keeps_push}
use Rattle.axioms.specs.Ontology.{SubClass}
use Rattle.normalise.specs.Growth.{Grows}
use Rattle.normalise.proofs.Adding.{keeps_long}
use Rattle.engine_tests.proofs.extended.add_subclass.Goals as goal

pub add_axiom-requires : goal.add_axiom-requires
add_axiom-requires c = (omega (arith, c.in_ok-sub.ensures.there, keeps_long c.class.new.builder.nodes c.class-2.new.builder.nodes c.in_ok-sup.ensures.grows.nodes), c.in_ok-sup.ensures.there)

pub returns-in-Ok-clause-grows : goal.returns-in-Ok-clause-grows
returns-in-Ok-clause-grows c =
    let old = c.args.builder.now in
    let axioms = c.class-2.new.builder.axioms in
    subst (λ p. Grows old p (length old.axioms)) (sym c.in-Ok.ensures.ok)
    (record {
      nodes = λ n x at. c.in_ok-sup.ensures.grows.nodes n x (c.in_ok-sub.ensures.grows.nodes n x at);
      axioms = λ n x at. keeps_push axioms (SubClass c.in_ok-sub.sub.0 c.in_ok-sup.sup.0) n x (c.in_ok-sup.ensures.grows.axioms n x (c.in_ok-sub.ensures.grows.axioms n x at));
      new_from = refl;
    })
