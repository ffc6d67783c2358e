use Rattle.property_closure.proofs.ChainLists.{chains_closed}
use Rattle.property_closure.proofs.chains.all_chains.Goals as goal

pub returns : goal.returns
returns c =
    chains_closed c.args.forms.now c.in_ok-unsorted.unsorted c.in_ok-packed.field-0 c.in_ok-packed-2.field-0 c.in_ok-unsorted.ensures c.in_ok-packed.ensures c.in_ok-packed-2.ensures
