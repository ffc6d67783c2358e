use Rattle.std.proofs.Common.{arith}
use Rattle.cert_check.proofs.RulesTake.{chains_found}
use Rattle.cert_check.proofs.premises.longest_chain.Goals as goal

pub returns : goal.returns
returns c =
    chains_found c.args.ontology.now c.axioms-stated-items.result.now c.loop-stated.stated-index c.loop-stated.longest c.axioms-stated-items.ensures (omega (arith, c.loop-stated-test.false)) c.loop-stated.invariant
