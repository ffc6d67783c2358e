use Rattle.facts.specs.declared.contexts.Fact.TheVariants.{In}
use Rattle.normal_forms.specs.declared.forms.Class2.TheVariants.{Expr}
use Rattle.answers.proofs.Having.{found_in, said}
use Rattle.answers.proofs.Lent.{whole_ontology, whole_saturation}
use Rattle.answers.proofs.lacking.is_fact.Goals as goal

pub returns : goal.returns
returns c =
    let s = c.args.indexed.now.saturation in
    let w = whole_ontology c.closed.ensures c.well_formed-2.ensures.ontology in
    let h = whole_saturation c.closed.ensures c.well_formed-2.ensures.saturated in
    let there = found_in s.state.facts (In (Expr c.args.expression) c.args.subject) c.find.result c.is_some.result c.is_some.ensures c.find.ensures.there c.find.ensures.none in
    let says = said c.args.indexed.now.ontology w s h c.args.subject c.args.expression in
    (λ t. says.0 (there.0 t), λ f. there.1 (says.1 f))
