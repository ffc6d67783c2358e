use Rattle.std.proofs.Common.{arith}
use Rattle.saturate.proofs.Naming.{one_form_more, all_have_names}
use Rattle.saturate.proofs.counts.counted.Goals as goal

pub loop-number-preserved : goal.loop-number-preserved
loop-number-preserved c = record {
  small = c.with_form-counts.ensures.small;
  more = record {
    properties = omega (arith, c.loop-number.invariant.more.properties, c.with_form-counts.ensures.more.properties);
    partials = omega (arith, c.loop-number.invariant.more.partials, c.with_form-counts.ensures.more.partials);
  };
  has = one_form_more _ _ c.args.forms.now c.loop-number.number _ c.with_form-counts.ensures.more c.loop-number.invariant.has c.at.ensures c.with_form-counts.ensures.has;
}

pub returns-clause-has : goal.returns-clause-has
returns-clause-has c = all_have_names _ c.args.forms.now c.loop-number.number (omega (arith, c.loop-number-test.false, c.len-number-end.ensures)) c.loop-number.invariant.has
