use Rattle.std.proofs.Common.{List, sym, subst, subst₂}
use Rattle.normal_forms.specs.declared.forms.Form.{Form}
use Rattle.property_closure.specs.declared.chains.Chains.{Chains}
use Rattle.property_closure.specs.Chains.{AreChains, chains_at}
use Rattle.property_closure.proofs.ChainLists.{still_chains}
use Rattle.property_closure.proofs.related.Related.chains_with.Goals as goal

pub returns-then-are_no_chains : goal.returns-then-are_no_chains
returns-then-are_no_chains c = λ p.
    let forms = c.args.self.now.forms.value.items in
    let chains = c.args.self.now.chains.value in
    let still = still_chains forms c.args.added.now p (chains_at chains p) (c.are_no_chains.ensures.0 c.if-are_no_chains.true) (c.requires.chains p) in
    subst₂ (λ (fs : List Form) (cs : Chains). AreChains fs p (chains_at cs p)) (sym c.requires.all) (sym c.in_ok-clone.ensures.cases) still

pub returns : goal.returns
returns c = λ p. subst (λ (cs : Chains). AreChains c.args.all.now p (chains_at cs p)) (sym c.in_ok-new.ensures.ok) (c.in_ok-chains.ensures p)
