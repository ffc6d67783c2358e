use Rattle.std.proofs.Common.{sym, ◌∙◌}
use Rattle.certificate.specs.View.{listing_of}
use Rattle.certificate.proofs.TakenRows.{element_taken}
use Rattle.certificate.proofs.single_rows.individual_row.Goals as goal

pub returns : goal.returns
returns c format =
    let l = c.args.listed.now in
    element_taken c.args.ontology.now format (listing_of l) c.args.bytes.now c.len.result c.in-Some.element c.push.new.self.items
    (sym c.if-not-may_take_individual.ensures) (c.len.ensures ∙ l.rows.individuals.ok.0) c.in-Some.ensures c.in_ok-push.ensures.items
