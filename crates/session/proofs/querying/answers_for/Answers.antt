use Rattle.entailment.proofs.Asking.{is_root}
use Rattle.session.proofs.querying.answers_for.Goals as goal

pub selected-requires-clause-root : goal.selected-requires-clause-root
selected-requires-clause-root c = is_root c.args.grown.now.ontology c.args.expr.0 c.args.grown.now.saturation.normal.asked c.requires.there c.requires.asked

pub selected-requires-2-clause-root : goal.selected-requires-2-clause-root
selected-requires-2-clause-root c = is_root c.args.grown.now.ontology c.args.expr.0 c.args.grown.now.saturation.normal.asked c.requires.there c.requires.asked

pub selected-requires-3-clause-root : goal.selected-requires-3-clause-root
selected-requires-3-clause-root c = is_root c.args.grown.now.ontology c.args.expr.0 c.args.grown.now.saturation.normal.asked c.requires.there c.requires.asked
