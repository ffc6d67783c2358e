use Rattle.std.proofs.Common.{take}
use Rattle.property_closure.specs.Chains.{AreNoChains}
use Rattle.property_closure.proofs.chains.are_no_chains.Given as goal

abbrev pub invariant-loop-form : goal.invariant-loop-form
invariant-loop-form l = AreNoChains (take l.form-index l.forms)
