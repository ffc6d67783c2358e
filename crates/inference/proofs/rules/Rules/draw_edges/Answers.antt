use Rattle.std.proofs.Common.{refl, subst}
use Rattle.inference.specs.Visits.{IsBy, IsEdge}
use Rattle.inference.proofs.Drawing.{drawn_by_two, draws}
use Rattle.inference.proofs.Edges.{property_there}
use Rattle.inference.proofs.Visiting.{edges_drawn}
use Rattle.inference.proofs.rules.Rules.draw_edges.Goals as goal

pub draw_chains-requires-clause-has : goal.draw_chains-requires-clause-has
draw_chains-requires-clause-has c =
    let by : IsBy c.in-Edge-Edge.before c.args.first.fact = rw c.in-Edge-Edge.is-0 refl in
    property_there c.args.self.now.problem.now c.args.self.now.closed c.requires.derived c.args.first.number c.args.first.fact c.in-Edge-Edge.before c.requires.first by

pub draw_chains-requires-clause-has_second : goal.draw_chains-requires-clause-has_second
draw_chains-requires-clause-has_second c =
    let by : IsBy c.in-Edge-Edge.behind c.args.second.fact = rw c.in-Edge-Edge.is-1 refl in
    property_there c.args.self.now.problem.now c.args.self.now.closed c.requires.derived c.args.second.number c.args.second.fact c.in-Edge-Edge.behind c.requires.second by

pub returns-in_ok-draw_chains : goal.returns-in_ok-draw_chains
returns-in_ok-draw_chains c =
    let k = c.args.self.now.problem.now in
    let facts = c.draw_chains.new.facts.facts in
    let by : IsBy c.in-Edge-Edge.before c.args.first.fact = rw c.in-Edge-Edge.is-0 refl in
    draws c.draw_chains.ensures.grows (drawn_by_two k c.args.first.fact c.args.second.fact facts (edges_drawn k c.args.first.fact c.args.second.fact c.in-Edge-Edge.before facts by c.requires.other
    c.in_ok-draw_chains.ensures.drawn) (λ l a b x w e _. absurd (subst IsEdge e c.requires.edge)))
