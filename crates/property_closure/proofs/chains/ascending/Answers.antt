use Rattle.std.proofs.Common.{◌↔◌, List, ◌++◌, get_or, Contains, ap, ◌∙◌, subst}
use Rattle.property_closure.proofs.ChainLists.{Chain, chain_before}
use Rattle.property_closure.proofs.chains.ascending.Goals as goal

pub returns-clause-ascending : goal.returns-clause-ascending
returns-clause-ascending c =
    let list = c.sort_ascending.new.list.items in
    λ i j d l k. chain_before (get_or list i d) (get_or list j d) (c.sort_ascending.ensures.ascending i j d l k)

pub returns-clause-same : goal.returns-clause-same
returns-clause-same c =
    let is = c.in_ok-extend_from_slice.ensures.items ∙ ap (λ (list : List Chain). list ++ c.args.chains.now) c.new-list.ensures.items in
    λ x. subst (λ (list : List Chain). Contains c.sort_ascending.new.list.items x ↔ Contains list x) is (c.sort_ascending.ensures.same x)
