use Rattle.std.proofs.Common.{length}
use Rattle.std.proofs.lemmas.Option.{slice_get-get_or}
use Rattle.classification.specs.Lists.{PutsBelow}
use Rattle.classification.proofs.Growing.{lists_start, lists_more}
use Rattle.classification.proofs.relation.class_lists.Goals as goal

pub loop-fact-init : goal.loop-fact-init
loop-fact-init c = lists_start (PutsBelow c.args.ontology.now) (length c.args.ontology.now.names.classes) c.in_ok-lists.lists c.in_ok-lists.ensures

pub loop-fact-preserved : goal.loop-fact-preserved
loop-fact-preserved c =
    let there = slice_get-get_or c.args.facts.now c.loop-fact.fact-index _ c.loop-fact-test.true in
    lists_more (PutsBelow c.args.ontology.now) (length c.args.ontology.now.names.classes) c.args.facts.now c.loop-fact.fact-index _ there c.loop-fact.lists c.put_below.new.lists
    c.loop-fact.invariant (rw c.fact-item.is at c.in_ok-put_below.ensures)
