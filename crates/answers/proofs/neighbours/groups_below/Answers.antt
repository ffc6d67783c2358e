use Rattle.std.proofs.Common.{◌∙◌, Bool, List, sym}
use Rattle.std.proofs.lemmas.Bool.{false≢true}
use Rattle.std.proofs.lemmas.Result.{IfOk-weaker}
use Rattle.axioms.specs.Expression.{owl_nothing}
use Rattle.axioms.specs.Ontology.{Ontology, nothing}
use Rattle.axioms.specs.WellFormedness.{IsOntology}
use Rattle.closure.specs.Closure.{IsRoot}
use Rattle.answers.specs.Entailment.{LiesBelow}
use Rattle.answers.specs.Names.{groups_in}
use Rattle.answers.specs.Neighbours.{AreMarksAmong}
use Rattle.answers.specs.Selections.{FollowsFor}
use Rattle.answers.specs.declared.selection.Selection.TheVariants.{Below}
use Rattle.answers.proofs.Lent.{whole_ontology}
use Rattle.answers.proofs.NamedSides.{below_nothing_is, nothing_id}
use Rattle.answers.proofs.Neighbouring.{among_same, children_are, lone_children_are, one_group_below, satisfiable_below}
use Rattle.answers.proofs.neighbours.groups_below.Goals as goal

empty_are : (o : Ontology) → IsOntology o → (marks empty : List Bool) → AreMarksAmong marks o.names.classes (FollowsFor o (Below nothing_id)) empty → AreMarksAmong marks o.names.classes (λ name. LiesBelow o name owl_nothing) empty
empty_are o w marks empty are = among_same o.names.classes (FollowsFor o (Below nothing_id)) (λ name. LiesBelow o name owl_nothing) (below_nothing_is o w) marks empty are

pub marks_among-requires-clause-root : goal.marks_among-requires-clause-root
marks_among-requires-clause-root c = IsRoot.named 1 nothing (whole_ontology c.closed.ensures c.well_formed-2.ensures.ontology).nothing_node

pub is_subset-requires : goal.is_subset-requires
is_subset-requires c = c.requires.1.long ∙ sym c.in_ok-empty.ensures.long

pub minus-requires : goal.minus-requires
minus-requires c = c.requires.1.long ∙ sym c.in_ok-empty.ensures.long

pub one_group-requires : goal.one_group-requires
one_group-requires c =
    let o = c.args.indexed.now.ontology in
    let bottom = empty_are o (whole_ontology c.closed.ensures c.well_formed-2.ensures.ontology) c.args.marks c.in_ok-empty.empty c.in_ok-empty.ensures in
    one_group_below o c.args.marks c.requires.0 c.requires.1 c.in_ok-empty.empty bottom (c.is_subset.ensures.0 c.if-is_subset.true)

pub returns-then-is_subset : goal.returns-then-is_subset
returns-then-is_subset c =
    let o = c.args.indexed.now.ontology in
    let bottom = empty_are o (whole_ontology c.closed.ensures c.well_formed-2.ensures.ontology) c.args.marks c.in_ok-empty.empty c.in_ok-empty.ensures in
    IfOk-weaker c.one_group.result _ _
    (λ v are class below. lone_children_are o c.args.marks class below c.in_ok-empty.empty bottom (c.is_subset.ensures.0 c.if-is_subset.true) (groups_in v.items) are)
    c.one_group.ensures

pub nearest_groups-requires-clause-satisfiable : goal.nearest_groups-requires-clause-satisfiable
nearest_groups-requires-clause-satisfiable c =
    let o = c.args.indexed.now.ontology in
    let bottom = empty_are o (whole_ontology c.closed.ensures c.well_formed-2.ensures.ontology) c.args.marks c.in_ok-empty.empty c.in_ok-empty.ensures in
    satisfiable_below o c.args.marks c.requires.0 c.requires.1 c.in_ok-empty.empty bottom c.minus.new.self c.minus.ensures.len c.minus.ensures.members

pub returns : goal.returns
returns c =
    let o = c.args.indexed.now.ontology in
    let bottom = empty_are o (whole_ontology c.closed.ensures c.well_formed-2.ensures.ontology) c.args.marks c.in_ok-empty.empty c.in_ok-empty.ensures in
    IfOk-weaker c.nearest_groups.result _ _
    (λ v are class below. children_are o c.args.marks class below c.in_ok-empty.empty bottom c.minus.new.self c.minus.ensures.len c.minus.ensures.members
    (λ all. false≢true (sym c.if-is_subset.false ∙ c.is_subset.ensures.1 all)) (groups_in v.items) are)
    c.nearest_groups.ensures
