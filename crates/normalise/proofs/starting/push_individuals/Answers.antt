use Rattle.std.proofs.Common.{◌+◌, inl, inr, refl, subst, sym, arith}
use Rattle.normalise.specs.Roots.{AddsThose, IsIndividualWithin}
use Rattle.normalise.proofs.AddingRoots.{adds_individual, adds_none, all_individuals}
use Rattle.normalise.proofs.starting.push_individuals.Goals as goal

pub loop-number-init : goal.loop-number-init
loop-number-init c = record { adds = adds_none _ _ (λ x (i, m, l, is). omega (arith, m, l)); within = inl refl }

pub loop-number-preserved : goal.loop-number-preserved
loop-number-preserved c = record {
  adds = subst (AddsThose (IsIndividualWithin c.args.from (c.loop-number.number + 1)) c.args.roots.now.items) (sym c.in_ok-push.ensures.items)
      (adds_individual c.args.from c.loop-number.number _ c.args.roots.now.items c.loop-number.roots.items refl c.loop-number.auto.number c.loop-number.invariant.adds);
  within = inr (omega (arith, c.individuals-number-end.ensures.count, c.loop-number-test.true));
}

pub returns : goal.returns
returns c =
    all_individuals c.args.ontology.now c.args.from c.loop-number.number _ _ (omega (arith, c.individuals-number-end.ensures.count, c.loop-number-test.false)) c.loop-number.invariant.within c.loop-number.invariant.adds
