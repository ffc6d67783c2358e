use Rattle.certificate.specs.View.{listing_of}
use Rattle.certificate.proofs.TakenRows.{some_kind, third_kind}
use Rattle.certificate.proofs.single_rows.take_row.Goals as goal

pub returns-then-branch-3 : goal.returns-then-branch-3
returns-then-branch-3 c =
    third_kind c.args.ontology.now c.args.format (listing_of c.args.listed.now) (listing_of c.class_row.new.listed) (listing_of c.pair_row.new.listed) (listing_of c.individual_row.new.listed)
    c.args.bytes.now (rw c.if-branch.false at c.in_ok-class_row.ensures) (rw c.if-branch-2.false at c.in_ok-pair_row.ensures) (rw c.if-branch-3.true at c.in_ok-individual_row.ensures)

pub returns : goal.returns
returns c =
    some_kind c.args.ontology.now c.args.format (listing_of c.args.listed.now) (listing_of c.class_row.new.listed) (listing_of c.pair_row.new.listed) (listing_of c.individual_row.new.listed) _
    c.args.bytes.now c.claim_row.result (rw c.if-branch.false at c.in_ok-class_row.ensures) (rw c.if-branch-2.false at c.in_ok-pair_row.ensures) (rw c.if-branch-3.false at c.in_ok-individual_row.ensures)
    c.claim_row.ensures
