use Rattle.std.proofs.Common.{◌≡◌, ◌≤◌, length, arith}
use Rattle.session.proofs.AtEnd.{read}
use Rattle.session.proofs.inferring.inference_of.Goals as goal

pub returns-in-Ok-inferred_of-clause-inferred : goal.returns-in-Ok-inferred_of-clause-inferred
returns-in-Ok-inferred_of-clause-inferred g c =
    let s = c.in-Ok.session in
    let made = c.in-Ok-inferred_of.inferred in
    let is = c.in-Ok-inferred_of.ensures in
    let facts : made.summary.facts ≡ length s.saturation.state.facts = is.facts in
    let few : length s.saturation.state.facts ≤ c.args.limits.now.max_facts = c.in-Ok.ensures.within in
    record {
      ontology = s.ontology;
      reads = (read c.args.limits.now _ _ c.in-Ok.ensures.run).reads;
      within = omega (arith, facts, few);
      inferred_is = is.inferred;
    }

pub returns-in-Err-inferred_of-clause-fault : goal.returns-in-Err-inferred_of-clause-fault
returns-in-Err-inferred_of-clause-fault g c = (c.in-Ok.session.ontology, read c.args.limits.now _ _ c.in-Ok.ensures.run)
