use Rattle.std.proofs.Common.{sym, ◌∙◌}
use Rattle.std.proofs.lemmas.Bool.{false≢true}
use Rattle.std.proofs.lemmas.Result.{IfOk-weaker}
use Rattle.axioms.specs.Ontology.{individual_name}
use Rattle.classification.proofs.Following.{contradictory}
use Rattle.closure.specs.Closure.{IsRoot}
use Rattle.answers.specs.Names.{groups_in}
use Rattle.answers.proofs.Lent.{whole_ontology, whole_saturation}
use Rattle.answers.proofs.Typing.{direct_types_are, lone_types_are, one_group_of_types, types_satisfiable}
use Rattle.answers.proofs.types.direct_types_of.Goals as goal

pub marks_of-requires : goal.marks_of-requires
marks_of-requires c = record { root = IsRoot.individual c.args.individual.0 c.requires }

pub nearest_groups-requires-clause-satisfiable : goal.nearest_groups-requires-clause-satisfiable
nearest_groups-requires-clause-satisfiable c =
    let o = c.args.indexed.now.ontology in
    let w = whole_ontology c.closed.ensures c.well_formed-2.ensures.ontology in
    let h = whole_saturation c.closed.ensures c.well_formed-2.ensures.saturated in
    types_satisfiable o (individual_name o c.args.individual.0) c.in_ok-marks.marks c.in_ok-marks.ensures
    (λ none. (contradictory o w c.args.indexed.now.saturation h).0 none (c.is_consistent.ensures.0 c.if-is_consistent.true))

pub one_group-requires : goal.one_group-requires
one_group-requires c =
    let o = c.args.indexed.now.ontology in
    let w = whole_ontology c.closed.ensures c.well_formed-2.ensures.ontology in
    let h = whole_saturation c.closed.ensures c.well_formed-2.ensures.saturated in
    one_group_of_types o (individual_name o c.args.individual.0) c.in_ok-marks.marks c.in_ok-marks.ensures
    ((contradictory o w c.args.indexed.now.saturation h).1 (λ k. false≢true (sym c.if-is_consistent.false ∙ c.is_consistent.ensures.1 k)))

pub returns-then-is_consistent : goal.returns-then-is_consistent
returns-then-is_consistent c =
    let o = c.args.indexed.now.ontology in
    IfOk-weaker c.nearest_groups.result _ _
    (λ v are. direct_types_are o (individual_name o c.args.individual.0) c.in_ok-marks.marks c.in_ok-marks.ensures (groups_in v.items) are)
    c.nearest_groups.ensures

pub returns : goal.returns
returns c =
    let o = c.args.indexed.now.ontology in
    let w = whole_ontology c.closed.ensures c.well_formed-2.ensures.ontology in
    let h = whole_saturation c.closed.ensures c.well_formed-2.ensures.saturated in
    let none = (contradictory o w c.args.indexed.now.saturation h).1 (λ k. false≢true (sym c.if-is_consistent.false ∙ c.is_consistent.ensures.1 k)) in
    IfOk-weaker c.one_group.result _ _
    (λ v are. lone_types_are o (individual_name o c.args.individual.0) c.in_ok-marks.marks c.in_ok-marks.ensures none (groups_in v.items) are)
    c.one_group.ensures
