use Rattle.std.proofs.Common.{subst₂}
use Rattle.normalise.specs.Problem.{prefixes_of}
use Rattle.classification.specs.Lists.{AreClassLists}
use Rattle.classification.proofs.Saying.{say_alone}
use Rattle.classification.proofs.Taxonomy.{is_taxonomy}
use Rattle.classification.proofs.relation.relation_of.Goals as goal

pub returns : goal.returns
returns c =
    let o = c.args.closed.now.ontology in
    let s = c.args.closed.now.saturation in
    let relation = c.in_ok-relation in
    is_taxonomy o c.well_formed-2.ensures.ontology (prefixes_of s.normal) s.state.facts (say_alone o s c.well_formed-2.ensures.saturated c.requires.unasked) c.in_ok-lists.lists
    (subst₂ (λ p fs. AreClassLists p fs c.in_ok-lists.lists) c.ontology.ensures c.facts.ensures c.in_ok-lists.ensures) relation.relation relation.ensures.size relation.ensures.each
