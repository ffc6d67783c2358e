use Rattle.std.proofs.Common.{length, List, [], map, refl, subst, arith}
use Rattle.std.proofs.lemmas.List.{take_all}
use Rattle.std.proofs.lemmas.Option.{slice_get_read}
use Rattle.certificate.specs.declared.listed.ClassRow.{ClassRow}
use Rattle.certificate.specs.View.{class_row_of}
use Rattle.cert_check.specs.Additions.{AddsMembers, IsListedMember, ListsMember}
use Rattle.cert_check.proofs.Additions.{members_step, no_members, some_none}
use Rattle.cert_check.proofs.listing.put_classes.Goals as goal

pub loop-row-init : goal.loop-row-init
loop-row-init c = no_members (IsListedMember c.args.ontology.now (map class_row_of [])) c.args.interpretation.now (λ d x. some_none (λ r. ListsMember c.args.ontology.now r d x))

pub loop-row-preserved : goal.loop-row-preserved
loop-row-preserved c =
    let rows = c.args.rows.now in
    let row = c.row-item.result in
    let there = slice_get_read rows (length rows) c.loop-row.row-index row refl c.loop-row-test.true c.row-item.is in
    members_step (ListsMember c.args.ontology.now) class_row_of rows c.loop-row.row-index row there
    c.args.interpretation.now c.loop-row.interpretation c.put_elements.new.interpretation c.loop-row.invariant c.in_ok-put_elements.ensures

pub returns : goal.returns
returns c =
    subst (λ (rows : List ClassRow). AddsMembers (IsListedMember c.args.ontology.now (map class_row_of rows)) c.args.interpretation.now c.loop-row.interpretation)
    (take_all c.loop-row.row-index c.args.rows.now (omega arith)) c.loop-row.invariant
