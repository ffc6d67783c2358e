use Rattle.std.proofs.Common.{List, map}
use Rattle.certificate.specs.View.{pair_row_of}
use Rattle.certificate.specs.declared.listed.PairRow.{PairRow}
use Rattle.countermodel.specs.PairRows.{ArePairRows}
use Rattle.countermodel.proofs.PartFacts.{all_facts}
use Rattle.countermodel.proofs.Taken.{all_taken}
use Rattle.countermodel.proofs.rows.pair_rows.Goals as goal

pub add_pair_rows-requires-clause-facts : goal.add_pair_rows-requires-clause-facts
add_pair_rows-requires-clause-facts c = all_facts c.args.elements.now c.args.closed.now.saturation.state.facts c.facts-facts.result.now c.facts-facts.ensures

pub returns : goal.returns
returns c =
    all_taken (λ (rows : List PairRow). ArePairRows c.args.closed.now.ontology c.args.closed.now.saturation.normal.asked c.args.elements.now (map pair_row_of rows))
    c.new-rows.result.items c.add_pair_rows.new.rows.items c.new-rows.ensures.items c.in_ok-add_pair_rows.ensures
