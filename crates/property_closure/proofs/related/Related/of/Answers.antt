use Rattle.std.proofs.Common.{◌≡◌, ◌↔◌, Bool, List, true, sym, ap, ◌∙◌, subst, subst₂, arith}
use Rattle.std.specs.List.{All}
use Rattle.normal_forms.specs.declared.forms.Form.{Form}
use Rattle.normal_forms.specs.Properties.{IsPropertyFormOf, IsReflexive}
use Rattle.number_sets.specs.Members.{has}
use Rattle.property_closure.specs.Growth.{AreSupers}
use Rattle.property_closure.specs.Relations.{AreReflexiveWithin, as_property}
use Rattle.property_closure.specs.Chains.{AreChains, chains_at}
use Rattle.property_closure.proofs.Keeping.{reflexive_within}
use Rattle.property_closure.proofs.related.Related.of.Goals as goal

pub reflexive_properties-requires : goal.reflexive_properties-requires
reflexive_properties-requires c =
    let n = c.args.properties in
    let is = sym c.deref.ensures.value in record {
      covered = c.requires.covered;
      supers = subst (λ (fs : List Form). AreSupers fs c.args.supers.base.value c.args.supers.more) is c.requires.supers;
      within = subst (AreReflexiveWithin n) is (reflexive_within n c.args.partials c.args.forms.items c.requires.forms);
    }

pub returns-clause-related : goal.returns-clause-related
returns-clause-related c =
    let is = sym (ap (λ v. v.items) c.in_ok-new.ensures.ok) in record {
      within = subst (All (IsPropertyFormOf c.args.properties c.args.partials)) is c.requires.forms;
      covered = omega (arith, c.requires.covered);
      supers = subst (λ (fs : List Form). AreSupers fs c.args.supers.base.value c.args.supers.more) is c.requires.supers;
      reflexive = λ p. subst₂ (λ (fs : List Form) (s : List Bool). (has s p ≡ true) ↔ IsReflexive fs (as_property p)) (c.deref.ensures.value ∙ is) (sym c.in_ok-new-2.ensures.ok) (c.in_ok-reflexive.ensures p);
      chains = λ p. subst (λ (fs : List Form). AreChains fs p (chains_at c.args.chains.value p)) is (c.requires.chains p);
    }
