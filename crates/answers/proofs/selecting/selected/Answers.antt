use Rattle.std.proofs.Common.{List, map, sym, subst}
use Rattle.std.proofs.lemmas.Result.{IfOk-weaker}
use Rattle.axioms.specs.Expression.{Iri}
use Rattle.axioms.specs.WellFormedness.{AreDistinct}
use Rattle.answers.specs.Names.{AreThose, HasMark}
use Rattle.answers.specs.Selections.{FollowsFor, names_asked}
use Rattle.answers.proofs.Lent.{whole_ontology}
use Rattle.answers.proofs.AnsweredByFacts.{asked_apart}
use Rattle.answers.proofs.Naming.{those_marked}
use Rattle.answers.proofs.selecting.selected.Goals as goal

pub names_in_order-requires : goal.names_in_order-requires
names_in_order-requires c =
    let w = whole_ontology c.closed-closed.ensures c.well_formed-2.ensures.ontology in
    subst (λ (names : List Iri). AreDistinct names) (sym c.requires.names) (asked_apart c.args.indexed.now.ontology w c.args.selection)

pub returns : goal.returns
returns c =
    let o = c.args.indexed.now.ontology in
    IfOk-weaker c.names_in_order.result _ _
    (λ v those.
    let answer = map (λ s. s.now) v.items in
    those_marked (names_asked o c.args.selection) (FollowsFor o c.args.selection) c.in_ok-marks.marks c.in_ok-marks.ensures answer (subst (λ (names : List Iri). AreThose names (HasMark names c.in_ok-marks.marks) answer) c.requires.names those))
    c.names_in_order.ensures
