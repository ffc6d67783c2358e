-- What the code reads at a place, and facts that are lifted.
use Rattle.std.proofs.Common.{◌≡◌, Option, Some, None, refl, sym, ap, ◌∙◌}
use Rattle.explain.specs.Premises.{lifted_to}
use Rattle.facts.specs.declared.contexts.Context.{Context}
use Rattle.facts.specs.declared.contexts.Fact.{Fact}
use Rattle.facts.specs.declared.contexts.Fact.TheVariants.{In}
use Rattle.normal_forms.specs.declared.forms.Class2.{Class2}
use Rattle.normal_forms.specs.declared.forms.PropId2.{PropId2}

-- a class is not lifted
pub class_stays : (above : Option PropId2) (a : Class2) (x : Context) (f : Fact) → f ≡ In a x → lifted_to above f ≡ f
class_stays None a x f e = refl
class_stays (Some s) a x f e = ap (lifted_to (Some s)) e ∙ sym e
