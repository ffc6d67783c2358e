use Rattle.std.proofs.Common.{◌∙◌, IfOk, List, ap, map, sym, subst}
use Rattle.axioms.specs.Expression.{Iri}
use Rattle.axioms.specs.Ontology.{Ontology}
use Rattle.axioms.specs.WellFormedness.{AreDistinct}
use Rattle.answers.specs.Names.{AreThose, HasMark}
use Rattle.answers.proofs.Lent.{same_ontology, whole_ontology}
use Rattle.answers.proofs.neighbours.classes_marked.Goals as goal

pub names_in_order-requires : goal.names_in_order-requires
names_in_order-requires c =
    let is = same_ontology c.ontology.ensures c.closed-closed.ensures in
    let w = whole_ontology c.closed-closed.ensures c.well_formed-2.ensures.ontology in
    subst AreDistinct (sym (c.classes.ensures.names ∙ ap (λ (o : Ontology). o.names.classes) is)) w.distinct_classes

pub returns : goal.returns
returns c =
    let is = same_ontology c.ontology.ensures c.closed-closed.ensures in
    subst (λ (names : List Iri). IfOk c.names_in_order.result (λ v. AreThose names (HasMark names c.args.marks.now) (map (λ s. s.now) v.items)))
    (c.classes.ensures.names ∙ ap (λ (o : Ontology). o.names.classes) is) c.names_in_order.ensures
