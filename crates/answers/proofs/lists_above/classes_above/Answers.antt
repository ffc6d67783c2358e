use Rattle.std.proofs.Common.{◌↔◌, ◌<◌, List, Contains, length, sym, subst, subst₂}
use Rattle.std.proofs.lemmas.Option.{slice_get_within}
use Rattle.std.proofs.lemmas.Result.{IfOk-weaker}
use Rattle.axioms.specs.Ontology.{Ontology}
use Rattle.facts.specs.declared.contexts.Fact.{Fact}
use Rattle.answers.specs.Neighbours.{PutsOneBelow}
use Rattle.answers.proofs.Lent.{same_facts, same_ontology, whole_ontology}
use Rattle.answers.proofs.Listing.{above_by_context}
use Rattle.answers.proofs.lists_above.classes_above.Goals as goal

pub classes_by-requires : goal.classes_by-requires
classes_by-requires c = λ n there.
    let (f, at, is) = (c.classes_in-numbers.ensures n).0 there in
    subst (λ (fs : List Fact). n < length fs) (sym (same_facts c.facts.ensures c.closed-closed.ensures)) (slice_get_within c.args.indexed.now.saturation.state.facts n f at)

pub returns : goal.returns
returns c =
    let o = c.args.indexed.now.ontology in
    let numbers = c.classes_in-numbers.result.now in
    let w = whole_ontology c.closed-closed.ensures c.well_formed-2.ensures.ontology in
    IfOk-weaker c.classes_by.result _ _
    (λ v found d.
    let found = subst₂ (λ (o : Ontology) (fs : List Fact). Contains v.items d ↔ PutsOneBelow o fs numbers d)
    (same_ontology c.ontology.ensures c.closed-closed.ensures) (same_facts c.facts.ensures c.closed-closed.ensures) (found d) in
    let same = above_by_context o w c.args.indexed.now.saturation.state.facts c.args.class c.in-Some.expression c.in-Some.ensures.found numbers c.classes_in-numbers.ensures d in
    (λ there. same.0 (found.0 there), λ h. found.1 (same.1 h)))
    c.classes_by.ensures

pub unreachable-requires : goal.unreachable-requires
unreachable-requires c =
    let w = whole_ontology c.closed-closed.ensures c.well_formed-2.ensures.ontology in
    let (e, class) = w.class_nodes c.args.class c.requires in
    c.in_default.ensures.found e class
