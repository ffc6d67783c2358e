use Rattle.std.proofs.Common.{refl, arith}
use Rattle.saturate.specs.Flags.{IsListedFor}
use Rattle.saturate.proofs.Flagging.{for_all, for_none, for_one_more}
use Rattle.saturate.proofs.asked_facts.flag_of_individuals.Goals as goal

pub loop-number-init : goal.loop-number-init
loop-number-init c = record {
  long = refl;
  too = for_none (IsListedFor c.args.ground.now.forms c.args.index.now c.args.facts.now.facts) c.args.forms.now c.args.flags.now;
}

pub flag_listed-requires-clause-below : goal.flag_listed-requires-clause-below
flag_listed-requires-clause-below c = λ x n listed. omega (arith, c.requires.below x n listed, c.loop-number.invariant.long)

pub loop-number-preserved : goal.loop-number-preserved
loop-number-preserved c = record {
  long = omega (arith, c.flag_listed.ensures.long, c.loop-number.invariant.long);
  too = for_one_more (IsListedFor c.args.ground.now.forms c.args.index.now c.args.facts.now.facts) c.args.forms.now c.loop-number.number c.at.result c.at.ensures c.loop-number.invariant.too c.in_ok-flag_listed.ensures.ok;
}

pub returns-clause-ok : goal.returns-clause-ok
returns-clause-ok c = for_all (IsListedFor c.args.ground.now.forms c.args.index.now c.args.facts.now.facts) c.args.forms.now c.loop-number.number (omega (arith, c.loop-number-test.false, c.len-number-end.ensures)) c.loop-number.invariant.too
