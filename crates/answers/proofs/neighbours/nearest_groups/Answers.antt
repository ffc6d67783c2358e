use Rattle.std.proofs.Common.{◌∙◌, Contains, List, Bor, ap, length, map, sym, subst}
use Rattle.std.proofs.lemmas.Result.{IfOk-weaker}
use Rattle.axioms.specs.Expression.{Iri}
use Rattle.axioms.specs.Ontology.{Ontology}
use Rattle.answers.specs.Names.{AreThose, HasMark, groups_in}
use Rattle.answers.specs.Neighbours.{AreGroups}
use Rattle.answers.proofs.Lent.{same_ontology, whole_ontology, whole_saturation}
use Rattle.answers.proofs.ListedBelow.{listed_below}
use Rattle.answers.proofs.Nearby.{AreNearest, near_names}
use Rattle.answers.proofs.neighbours.nearest_groups.Goals as goal

near : (c : goal.After-deref) → AreNearest c.ontology-ontology.result.now c.args.marks c.in_ok-lists.lists c.args.side (map (λ name. name.now) c.deref.result.now)
near c =
    let o = c.args.indexed.now.ontology in
    let s = c.args.indexed.now.saturation in
    let w = whole_ontology c.closed-closed.ensures c.well_formed-2.ensures.ontology in
    let h = whole_saturation c.closed-closed.ensures c.well_formed-2.ensures.saturated in
    let marks = c.args.marks in
    let lists = c.in_ok-lists.lists in
    let listed = listed_below o w s h marks c.requires.long c.requires.satisfiable lists c.in_ok-lists.ensures in
    let those = subst (λ (names : List (Bor Iri)). AreThose o.names.classes (HasMark o.names.classes c.minus.new.self) (map (λ name. name.now) names)) (sym c.deref.ensures.value) c.in_ok-names.ensures in
    subst (λ (o : Ontology). AreNearest o marks lists c.args.side (map (λ name. name.now) c.deref.result.now)) (sym (same_ontology c.ontology-ontology.ensures c.closed-closed.ensures))
    (near_names o w s.state.facts marks c.requires.long c.requires.satisfiable lists c.in_ok-lists.ensures listed c.args.side c.in_ok-far.far c.minus.new.self c.in_ok-far.ensures.exact c.minus.ensures.len c.minus.ensures.members
    (map (λ name. name.now) c.deref.result.now) those)

pub groups_of-requires-clause-known : goal.groups_of-requires-clause-known
groups_of-requires-clause-known c = (near c).known

pub groups_of-requires-clause-closed : goal.groups_of-requires-clause-closed
groups_of-requires-clause-closed c = (near c).closed

pub groups_of-requires-clause-long : goal.groups_of-requires-clause-long
groups_of-requires-clause-long c =
    c.in_ok-lists.ensures.long ∙ sym (ap (λ (o : Ontology). length o.names.classes) (same_ontology c.ontology-ontology.ensures c.closed-closed.ensures))

pub groups_of-requires-clause-within : goal.groups_of-requires-clause-within
groups_of-requires-clause-within c = (near c).within

pub groups_of-requires-clause-tells : goal.groups_of-requires-clause-tells
groups_of-requires-clause-tells c = (near c).tells

pub returns : goal.returns
returns c =
    let o = c.args.indexed.now.ontology in
    let s = c.args.indexed.now.saturation in
    let w = whole_ontology c.closed-closed.ensures c.well_formed-2.ensures.ontology in
    let h = whole_saturation c.closed-closed.ensures c.well_formed-2.ensures.saturated in
    let names = map (λ name. name.now) c.deref.result.now in
    let listed = listed_below o w s h c.args.marks c.requires.long c.requires.satisfiable c.in_ok-lists.lists c.in_ok-lists.ensures in
    let those = subst (λ (names : List (Bor Iri)). AreThose o.names.classes (HasMark o.names.classes c.minus.new.self) (map (λ name. name.now) names)) (sym c.deref.ensures.value) c.in_ok-names.ensures in
    let near = near_names o w s.state.facts c.args.marks c.requires.long c.requires.satisfiable c.in_ok-lists.lists c.in_ok-lists.ensures listed c.args.side c.in_ok-far.far c.minus.new.self c.in_ok-far.ensures.exact c.minus.ensures.len c.minus.ensures.members names those in
    IfOk-weaker c.groups_of.result _ _
    (λ v are. near.groups (groups_in v.items) (subst (λ (o : Ontology). AreGroups o (Contains names) (groups_in v.items)) (same_ontology c.ontology-ontology.ensures c.closed-closed.ensures) are))
    c.groups_of.ensures
