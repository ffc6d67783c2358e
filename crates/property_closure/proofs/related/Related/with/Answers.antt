use Rattle.std.proofs.Common.{List, subst}
use Rattle.normal_forms.specs.declared.forms.Form.{Form}
use Rattle.property_closure.specs.Chains.{AreChains, chains_at}
use Rattle.property_closure.proofs.related.Related.with.Goals as goal

pub of-requires-clause-chains : goal.of-requires-clause-chains
of-requires-clause-chains c = λ p. subst (λ (fs : List Form). AreChains fs p (chains_at c.in_ok-chains.chains.value p)) c.deref-3.ensures.value (c.in_ok-chains.ensures p)
