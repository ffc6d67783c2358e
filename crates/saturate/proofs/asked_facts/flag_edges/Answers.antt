use Rattle.std.proofs.Common.{arith}
use Rattle.inference.proofs.Edges.{has_property}
use Rattle.saturate.proofs.Flagging.{flagged_as, flagged_both, none_too}
use Rattle.saturate.proofs.Listed.{all_edges, no_edge_before, one_property_more}
use Rattle.saturate.proofs.asked_facts.flag_edges.Goals as goal

pub loop-number-init : goal.loop-number-init
loop-number-init c = record {
  long = c.requires.long;
  too = none_too _ c.args.flags.now (no_edge_before c.closure-closure.result.now c.args.ground.now.forms c.args.added.now.forms c.args.facts.now.facts);
}

pub loop-number-preserved : goal.loop-number-preserved
loop-number-preserved c = record {
  long = omega (arith, c.flag_by.ensures.long, c.loop-number.invariant.long);
  too = flagged_as _ _ (one_property_more c.closure-closure.result.now c.args.ground.now.forms c.args.added.now.forms c.args.facts.now.facts c.loop-number.number c.property_numbered-property.result c.property_numbered-property.ensures.numbered)
      (flagged_both _ _ c.loop-number.invariant.too (c.in_ok-flag_by.ensures.ok c.args.ground.now.forms c.closure-closure.ensures));
}

pub returns-then-begin_with_none-clause-ok : goal.returns-then-begin_with_none-clause-ok
returns-then-begin_with_none-clause-ok c = none_too _ c.args.flags.now (λ n such. c.begin_with_none.ensures c.if-begin_with_none.true c.args.ground.now.forms such.0 (rw c.forms.ensures such.2))

pub returns-clause-ok : goal.returns-clause-ok
returns-clause-ok c = flagged_as _ _ (λ n. all_edges c.closure-closure.result.now c.args.ground.now.forms c.args.added.now.forms c.args.facts.now.facts c.loop-number.number (omega (arith, c.count_properties-number-end.ensures, c.loop-number-test.false)) n
    (λ f at. has_property c.args.ground.now c.closure-closure.ensures c.requires.derived n f at))
    c.loop-number.invariant.too
