use Rattle.std.proofs.Common.{arith}
use Rattle.saturate.specs.Requests.{IsOfNamed, IsSuchAt}
use Rattle.saturate.proofs.Flagging.{for_all, for_none, for_one_more}
use Rattle.saturate.proofs.named_facts.flag_of_named.Goals as goal

pub loop-number-init : goal.loop-number-init
loop-number-init c = record {
  long = c.requires;
  too = for_none (λ form. IsSuchAt (IsOfNamed form) c.args.facts.now.facts) c.args.forms.now c.args.flags.now;
}

pub loop-number-preserved : goal.loop-number-preserved
loop-number-preserved c = record {
  long = omega (arith, c.flag_named.ensures.long, c.loop-number.invariant.long);
  too = for_one_more (λ form. IsSuchAt (IsOfNamed form) c.args.facts.now.facts) c.args.forms.now c.loop-number.number c.at.result c.at.ensures c.loop-number.invariant.too c.in_ok-flag_named.ensures.ok;
}

pub returns-clause-ok : goal.returns-clause-ok
returns-clause-ok c = for_all (λ form. IsSuchAt (IsOfNamed form) c.args.facts.now.facts) c.args.forms.now c.loop-number.number (omega (arith, c.loop-number-test.false, c.len-number-end.ensures)) c.loop-number.invariant.too
