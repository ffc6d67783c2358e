use Rattle.normalise.specs.Problem.{prefixes_of}
use Rattle.countermodel.proofs.Leading.{are_groups}
use Rattle.countermodel.proofs.groups.groups_of.Goals as goal

pub returns : goal.returns
returns c =
    let s = c.args.closed.now.saturation in
    are_groups c.args.closed.now.ontology s.normal.asked (prefixes_of s.normal) s.state.problem c.well_formed-2.ensures.saturated.problem c.groups.result.now c.groups.ensures
