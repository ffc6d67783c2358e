use Rattle.std.proofs.Common.{◌≡◌, Some, sym, ap, subst, ◌∙◌}
use Rattle.facts.specs.declared.contexts.Fact.{Fact}
use Rattle.facts.specs.declared.contexts.Fact.TheVariants.{Edge}
use Rattle.inference.specs.Completeness.{IsRedundantAsSecond}
use Rattle.inference.proofs.Edges.{first_edge}
use Rattle.inference.proofs.Lists.{one_value}
use Rattle.inference.proofs.Marking.{from_not}
use Rattle.inference.proofs.Redundancy.{spared_edge, unneeded_edge}
use Rattle.inference.proofs.second_premises.is_second_premise.Goals as goal

pub ends_chain-requires-clause-has : goal.ends_chain-requires-clause-has
ends_chain-requires-clause-has c = first_edge c.args.problem.now c.requires.closed c.requires.derived c.args.number c.get.result c.get.ensures c.in-Edge.field-0 c.in-Edge.property c.in-Edge.field-2 c.in-Edge.is

pub returns-else-ends_chain : goal.returns-else-ends_chain
returns-else-ends_chain c = λ no f at.
    let k = c.args.problem.now in
    let d = c.args.facts.now in
    let is : f ≡ Edge c.in-Edge.field-0 c.in-Edge.property c.in-Edge.field-2 = one_value _ f c.get.result at c.get.ensures ∙ c.in-Edge.is in
    subst (IsRedundantAsSecond k d) (sym is) (unneeded_edge k d c.in-Edge.field-0 c.in-Edge.property c.in-Edge.field-2 (c.ends_chain.ensures no))

pub returns-then-ends_chain : goal.returns-then-ends_chain
returns-then-ends_chain c = λ no f at.
    let k = c.args.problem.now in
    let d = c.args.facts.now in
    let edge : Fact = Edge c.in-Edge.field-0 c.in-Edge.property c.in-Edge.field-2 in
    let is : f ≡ edge = one_value _ f c.get.result at c.get.ensures ∙ c.in-Edge.is in
    let spared = c.is_spared.ensures (from_not c.is_spared.result no) edge (c.get.ensures ∙ ap Some c.in-Edge.is) in
    subst (IsRedundantAsSecond k d) (sym is) (spared_edge k d spared.0 spared.1 c.in-Edge.field-0 c.in-Edge.property c.in-Edge.field-2 spared.2 spared.3)
