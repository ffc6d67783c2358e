use Rattle.std.proofs.Common.{IfOk, map, subst, sym}
use Rattle.std.proofs.lemmas.Result.{IfOk-weaker}
use Rattle.answers.proofs.AnsweredByFacts.{above_named, below_named, members_named}
use Rattle.answers.proofs.Deriving.{class_root}
use Rattle.answers.specs.Explanations.{IsClassNamed}
use Rattle.answers.specs.Questions.{AreRelated}
use Rattle.axioms.specs.Expression.{Iri}
use Rattle.program.specs.declared.question.Related.{Related}
use Rattle.answers.proofs.asking.names_related.Goals as goal

pub selected-requires-clause-root : goal.selected-requires-clause-root
selected-requires-clause-root c = class_root c.args.indexed.now.ontology c.args.indexed.now.saturation.normal.asked c.requires.0 c.args.class.0 c.requires.1

pub selected-requires-in-Subclasses-clause-root : goal.selected-requires-in-Subclasses-clause-root
selected-requires-in-Subclasses-clause-root c = class_root c.args.indexed.now.ontology c.args.indexed.now.saturation.normal.asked c.requires.0 c.args.class.0 c.requires.1

pub selected-requires-in-Instances-clause-root : goal.selected-requires-in-Instances-clause-root
selected-requires-in-Instances-clause-root c = class_root c.args.indexed.now.ontology c.args.indexed.now.saturation.normal.asked c.requires.0 c.args.class.0 c.requires.1

pub returns-in-Superclasses : goal.returns-in-Superclasses
returns-in-Superclasses c =
    let o = c.args.indexed.now.ontology in
    subst (λ (r : Related). IfOk c.selected.result (λ v. (name : Iri) → IsClassNamed o name c.args.class.0 → AreRelated o r name (map (λ s. s.now) v.items))) (sym c.in-Superclasses.is)
    (IfOk-weaker c.selected.result _ _ (λ v those name named. above_named o name c.args.class named _ those) c.selected.ensures)

pub returns-in-Subclasses : goal.returns-in-Subclasses
returns-in-Subclasses c =
    let o = c.args.indexed.now.ontology in
    subst (λ (r : Related). IfOk c.selected-in-Subclasses.result (λ v. (name : Iri) → IsClassNamed o name c.args.class.0 → AreRelated o r name (map (λ s. s.now) v.items))) (sym c.in-Subclasses.is)
    (IfOk-weaker c.selected-in-Subclasses.result _ _ (λ v those name named. below_named o name c.args.class named _ those) c.selected-in-Subclasses.ensures)

pub returns-in-Equivalents : goal.returns-in-Equivalents
returns-in-Equivalents c =
    let o = c.args.indexed.now.ontology in
    subst (λ (r : Related). IfOk c.equivalents_of.result (λ v. (name : Iri) → IsClassNamed o name c.args.class.0 → AreRelated o r name (map (λ s. s.now) v.items))) (sym c.in-Equivalents.is) c.equivalents_of.ensures

pub returns-in-Instances : goal.returns-in-Instances
returns-in-Instances c =
    let o = c.args.indexed.now.ontology in
    subst (λ (r : Related). IfOk c.selected-in-Instances.result (λ v. (name : Iri) → IsClassNamed o name c.args.class.0 → AreRelated o r name (map (λ s. s.now) v.items))) (sym c.in-Instances.is)
    (IfOk-weaker c.selected-in-Instances.result _ _ (λ v those name named. members_named o name c.args.class named _ those) c.selected-in-Instances.ensures)
