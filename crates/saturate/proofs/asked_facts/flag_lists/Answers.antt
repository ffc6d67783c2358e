use Rattle.std.proofs.Common.{arith}
use Rattle.saturate.specs.Requests.{IsSuchAt, ListAsks}
use Rattle.saturate.proofs.Flagging.{flagged_as, for_all, for_none, for_one_more}
use Rattle.saturate.proofs.NewLists.{at_place}
use Rattle.saturate.proofs.Listed.{says_in_lists}
use Rattle.saturate.proofs.asked_facts.flag_lists.Goals as goal

pub loop-number-init : goal.loop-number-init
loop-number-init c = record {
  long = c.requires;
  too = for_none (λ cs. IsSuchAt (ListAsks cs) c.args.facts.now.facts) c.args.lists.now c.args.flags.now;
}

pub loop-number-preserved : goal.loop-number-preserved
loop-number-preserved c = record {
  long = omega (arith, c.flag_list.ensures.long, c.loop-number.invariant.long);
  too = for_one_more (λ cs. IsSuchAt (ListAsks cs) c.args.facts.now.facts) c.args.lists.now c.loop-number.number c.at.result.now (at_place c.args.lists.now c.loop-number.number c.at.result.now c.at.ensures (omega (arith, c.loop-number-test.true, c.len-number-end.ensures))) c.loop-number.invariant.too c.in_ok-flag_list.ensures.ok;
}

pub returns-clause-ok : goal.returns-clause-ok
returns-clause-ok c = flagged_as _ _ (says_in_lists c.args.lists.now c.args.facts.now.facts)
    (for_all (λ cs. IsSuchAt (ListAsks cs) c.args.facts.now.facts) c.args.lists.now c.loop-number.number (omega (arith, c.loop-number-test.false, c.len-number-end.ensures)) c.loop-number.invariant.too)
