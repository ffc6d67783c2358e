use Rattle.classification.proofs.Counting.{counts_of}
use Rattle.classification.proofs.Following.{consistent_where}
use Rattle.classification.proofs.Outcomes.{outcome_follows}
use Rattle.classification.proofs.Shown.{made_for}
use Rattle.classification.proofs.classification.what_follows.Goals as goal

pub returns-clause-counts : goal.returns-clause-counts
returns-clause-counts c =
    let o = c.args.closed.now.ontology in
    let s = c.args.closed.now.saturation in
    let w = c.well_formed-2.ensures in
    let consistent = c.has_no_contradiction-consistent in
    let counted = c.counted.ensures in
    counts_of o s c.counted.result consistent.result w.saturated c.requires.unasked counted.consistent counted.classes counted.individuals counted.facts
    (consistent_where o w.ontology s w.saturated consistent.result consistent.ensures)

pub returns-clause-facts : goal.returns-clause-facts
returns-clause-facts c = c.counted.ensures.facts

pub returns-clause-made_for : goal.returns-clause-made_for
returns-clause-made_for c = made_for c.args.closed.now.ontology c.has_no_contradiction-consistent.result _ c.in_ok-outcome.ensures

pub returns-clause-follows : goal.returns-clause-follows
returns-clause-follows c =
    let consistent = c.has_no_contradiction-consistent in
    outcome_follows c.args.closed.now.ontology c.well_formed-2.ensures.ontology c.args.closed.now.saturation c.well_formed-2.ensures.saturated c.requires.unasked consistent.result consistent.ensures _ c.in_ok-outcome.ensures
