use Rattle.std.proofs.Common.{◌<◌, ◌∙◌}
use Rattle.countermodel.specs.Ranges.{IsWithin}
use Rattle.countermodel.proofs.Above.{all_given, more_given}
use Rattle.countermodel.proofs.edges.keys_of.Goals as goal

pub loop-fact-preserved : goal.loop-fact-preserved
loop-fact-preserved c =
    let long = c.loop-fact.invariant.0 in (
      c.in_ok-add_fact.ensures.long ∙ long,
      more_given (λ q. IsWithin c.args.range.now q × (q.property.0 < c.args.edges.now.properties)) c.args.edges.now.closure.now c.args.edges.now.elements.now c.args.edges.now.facts.now c.loop-fact.fact-index _ c.loop-fact.keys c.add_fact.new.keys
          c.loop-fact-test.true c.loop-fact.invariant.1 (rw (c.get.ensures, c.fact-item.is, long) at c.in_ok-add_fact.ensures.added),
    )

pub returns-clause-exact : goal.returns-clause-exact
returns-clause-exact c = λ p.
    let all' = all_given (λ q. IsWithin c.args.range.now q × (q.property.0 < c.args.edges.now.properties)) c.args.edges.now.closure.now c.args.edges.now.elements.now c.args.edges.now.facts.now c.loop-fact.fact-index p c.loop-fact-test.false in
    let says = c.loop-fact.invariant.1 p in
    (λ h. all'.0 (says.0 h), λ h. says.1 (all'.1 h))
