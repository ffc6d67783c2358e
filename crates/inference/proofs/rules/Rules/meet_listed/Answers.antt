use Rattle.std.proofs.Common.{subst}
use Rattle.inference.specs.Visits.{IsEdge}
use Rattle.inference.specs.Completeness.{IsRedundantAsSecond}
use Rattle.inference.proofs.Growth.{grows_trans}
use Rattle.inference.proofs.Drawing.{all_met_still, before_still, draws, for_each_earlier}
use Rattle.inference.proofs.Meeting.{met_in, met_edge, classes_listed, fillers_listed, second_premises_listed, into_listed, all_still_there}
use Rattle.inference.proofs.Redundancy.{second_still}
use Rattle.inference.proofs.rules.Rules.meet_listed.Goals as goal

pub meet_classes-requires-clause-numbers : goal.meet_classes-requires-clause-numbers
meet_classes-requires-clause-numbers c = classes_listed c.requires.index c.in-In.context c.classes_in.result.now c.classes_in.ensures

pub carry-requires-clause-numbers : goal.carry-requires-clause-numbers
carry-requires-clause-numbers c = all_still_there c.meet_classes.ensures.grows IsEdge c.edges_into.result.now (into_listed c.requires.index c.in-In.context c.edges_into.result.now c.edges_into.ensures)

pub meet_fillers-requires-clause-numbers : goal.meet_fillers-requires-clause-numbers
meet_fillers-requires-clause-numbers c = fillers_listed c.requires.index c.in-Edge.target c.fillers_in.result.now c.fillers_in.ensures

pub lead_on-requires-clause-numbers : goal.lead_on-requires-clause-numbers
lead_on-requires-clause-numbers c = all_still_there c.meet_fillers.ensures.grows IsEdge c.second_premises_from.result.now (second_premises_listed c.requires.index c.in-Edge.target c.second_premises_from.result.now c.second_premises_from.ensures)

pub lead_up-requires-clause-second : goal.lead_up-requires-clause-second
lead_up-requires-clause-second c = λ no.
    subst (IsRedundantAsSecond c.args.self.now.problem.now c.lead_on.new.facts) c.in-Edge.is
    (second_still (grows_trans c.meet_fillers.ensures.grows c.lead_on.ensures.grows) c.args.hand.fact (c.requires.second no))

pub lead_up-requires-clause-numbers : goal.lead_up-requires-clause-numbers
lead_up-requires-clause-numbers c =
    all_still_there (grows_trans c.meet_fillers.ensures.grows c.lead_on.ensures.grows) IsEdge c.edges_into-in-Edge.result.now
    (into_listed c.requires.index c.in-Edge.source c.edges_into-in-Edge.result.now c.edges_into-in-Edge.ensures)

pub returns-in_ok-carry-in-In : goal.returns-in_ok-carry-in-In
returns-in_ok-carry-in-In c =
    let old = c.args.facts.now.facts in
    let new = c.carry.new.facts in
    draws (grows_trans c.meet_classes.ensures.grows c.carry.ensures.grows)
    (rw c.in-In.is (met_in c.args.self.now.problem.now old c.args.index.now new _ c.in-In.context c.classes_in.result.now c.edges_into.result.now c.classes_in.ensures c.edges_into.ensures
    (all_met_still c.carry.ensures.grows _ old _ c.in_ok-meet_classes-in-In.ensures.drawn)
    (for_each_earlier c.meet_classes.ensures.grows _ _ c.in_ok-carry-in-In.ensures.drawn)))

pub returns-in_ok-lead_up-in-Edge : goal.returns-in_ok-lead_up-in-Edge
returns-in_ok-lead_up-in-Edge c =
    let old = c.args.facts.now.facts in
    let new = c.lead_up.new.facts in
    let s = c.meet_fillers.ensures.grows in
    let t = c.lead_on.ensures.grows in
    let u = c.lead_up.ensures.grows in
    draws (grows_trans s (grows_trans t u))
    (rw c.in-Edge.is (met_edge c.args.self.now.problem.now old c.args.index.now new c.in-Edge.source _ c.in-Edge.target c.fillers_in.result.now c.second_premises_from.result.now c.edges_into-in-Edge.result.now
    c.fillers_in.ensures c.second_premises_from.ensures c.edges_into-in-Edge.ensures
    (before_still (grows_trans t u) _ old _ c.in_ok-meet_fillers-in-Edge.ensures.drawn)
    (before_still u _ old _ (for_each_earlier s _ _ c.in_ok-lead_on-in-Edge.ensures.drawn))
    (for_each_earlier (grows_trans s t) _ _ c.in_ok-lead_up-in-Edge.ensures.drawn)))
