use Rattle.std.proofs.Common.{sym, ap, ◌∙◌, ◌<◌, length, subst}
use Rattle.facts.specs.declared.contexts.Fact.{Fact}
use Rattle.facts.specs.declared.contexts.Fact.TheVariants.{Edge}
use Rattle.countermodel.specs.Edges.{AddsPairs, IsGivenBy}
use Rattle.countermodel.specs.Ranges.{IsWithin, Within}
use Rattle.countermodel.proofs.Above.{of_edge}
use Rattle.countermodel.proofs.edges.add_fact.Goals as goal

pub returns-clause-added : goal.returns-clause-added
returns-clause-added c =
    let elements = c.args.elements.now in
    let is = c.in-Edge.is ∙ ap (λ q. Edge c.in-Edge.x q c.in-Edge.y) c.in-Property.is in
    let old = c.args.keys.now in
    let new = c.add_above.new.keys in
    let by = of_edge (λ p. IsWithin c.args.range.now p × (p.property.0 < length old)) c.args.closure.now elements c.in-Edge.x c.in-Edge.y c.in-Property.property c.in-Some.source c.in-Some-element.target old new c.requires c.in-Some.ensures c.in-Some-element.ensures c.in_ok-add_above.ensures.added in
    subst (λ (f : Fact). AddsPairs (Within (length old) c.args.range.now (IsGivenBy c.args.closure.now elements f)) old new) (sym is) by
