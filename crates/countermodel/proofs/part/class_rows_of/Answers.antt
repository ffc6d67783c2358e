use Rattle.std.proofs.Common.{List, map, subst}
use Rattle.std.proofs.lemmas.Result.{IfOk-weaker}
use Rattle.axioms.specs.Ontology.{Ontology}
use Rattle.certificate.specs.View.{class_row_of}
use Rattle.certificate.specs.declared.listed.ClassRow.{ClassRow}
use Rattle.normalise.specs.Problem.{prefixes_of}
use Rattle.countermodel.specs.MemberRows.{AreClassRows}
use Rattle.countermodel.specs.Members.{HasKey, SayMembers}
use Rattle.countermodel.proofs.MemberFacts.{rows_are}
use Rattle.countermodel.proofs.PartFacts.{members_in}
use Rattle.countermodel.proofs.Taken.{all_taken}
use Rattle.countermodel.proofs.part.class_rows_of.Goals as goal

pub returns-then-facts-expression_count : goal.returns-then-facts-expression_count
returns-then-facts-expression_count c =
    let o = c.args.closed.now.ontology in
    let s = c.args.closed.now.saturation in
    let elements = c.args.elements.now in
    IfOk-weaker c.rows_by_keys.result _ _
    (λ v (keys, says, rows).
    let here = subst (λ (x : Ontology). SayMembers x elements c.args.facts.now (HasKey keys)) c.ontology-ontology.ensures says in
    rows_are o s.normal.asked (prefixes_of s.normal) elements s.state.facts c.well_formed-2.ensures.saturated.facts (HasKey keys)
    (members_in elements s.state.facts c.args.facts.now c.requires.facts o (HasKey keys) here) (map class_row_of v.items) rows)
    c.rows_by_keys.ensures

pub returns : goal.returns
returns c =
    all_taken (λ (rs : List ClassRow). AreClassRows c.args.closed.now.ontology c.args.closed.now.saturation.normal.asked c.args.elements.now (map class_row_of rs)) c.new-rows.result.items c.add_class_rows.new.rows.items c.new-rows.ensures.items c.in_ok-add_class_rows.ensures
