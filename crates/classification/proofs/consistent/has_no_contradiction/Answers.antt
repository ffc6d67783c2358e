use Rattle.std.proofs.Common.{subst₂}
use Rattle.explain.specs.Marks.{FindsGoal, IsContradictoryFact}
use Rattle.classification.proofs.Saying.{consistent_by_facts, none_where_none_found}
use Rattle.classification.proofs.consistent.has_no_contradiction.Goals as goal

pub returns : goal.returns
returns c =
    let o = c.args.closed.now.ontology in
    let s = c.args.closed.now.saturation in
    let found = c.first_contradiction in
    let finds = subst₂ (λ p fs. FindsGoal (IsContradictoryFact p) fs found.result) c.ontology.ensures c.facts.ensures found.ensures in
    let none = none_where_none_found (IsContradictoryFact o) s.state.facts found.result c.is_none.result c.is_none.ensures finds in
    let by = consistent_by_facts o s c.well_formed-2.ensures.ontology c.well_formed-2.ensures.saturated in
    (λ t. by.0 (none.0 t), λ k. none.1 (by.1 k))
