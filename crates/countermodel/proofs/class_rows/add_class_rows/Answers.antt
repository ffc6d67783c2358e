use Rattle.std.proofs.Common.{map, subst}
use Rattle.axioms.specs.Ontology.{Ontology}
use Rattle.certificate.specs.View.{class_row_of}
use Rattle.normalise.specs.Problem.{prefixes_of}
use Rattle.countermodel.specs.Members.{AreMembers, HasNumber}
use Rattle.countermodel.proofs.MemberFacts.{rows_are}
use Rattle.countermodel.proofs.PartFacts.{members_in}
use Rattle.countermodel.proofs.Taken.{adds_weaker}
use Rattle.countermodel.proofs.class_rows.add_class_rows.Goals as goal

pub returns : goal.returns
returns g c =
    let o = c.args.closed.now.ontology in
    let s = c.args.closed.now.saturation in
    let elements = c.args.elements.now in
    let put = subst (λ (x : Ontology). AreMembers x elements c.args.facts.now c.in_ok-lists.lists) c.ontology-ontology.ensures c.in_ok-lists.ensures.members in
    let members = members_in elements s.state.facts c.args.facts.now c.requires.facts o (HasNumber c.in_ok-lists.lists) put in
    adds_weaker c.add_rows_of.result _ _ _
    (λ rows are. rows_are o s.normal.asked (prefixes_of s.normal) elements s.state.facts c.well_formed-2.ensures.saturated.facts (HasNumber c.in_ok-lists.lists) members (map class_row_of rows) are)
    c.add_rows_of.ensures
