use Rattle.std.proofs.Common.{arith}
use Rattle.indexes.proofs.Extending.{at_first, at_last, copies_share, one_more, still_share}
use Rattle.indexes.proofs.grown_index.listed_more.Goals as goal

pub loop-number-init : goal.loop-number-init
loop-number-init c = (
  at_first c.args.forms.now c.args.from c.args.earlier.now c.in_ok-index.index c.in_ok-index.ensures c.requires.earlier,
  copies_share c.args.earlier.now c.in_ok-index.index c.in_ok-index.ensures,
)

pub add-requires : goal.add-requires
add-requires c = c.loop-number.invariant.0.ordered

pub loop-number-preserved : goal.loop-number-preserved
loop-number-preserved c = (
  one_more c.args.forms.now c.loop-number.number c.at.result c.loop-number.index c.add.new.index c.at.ensures c.loop-number.invariant.0 c.in_ok-add.ensures,
  still_share c.args.forms.now c.loop-number.number c.at.result c.args.earlier.now c.loop-number.index c.add.new.index c.in_ok-add.ensures c.loop-number.invariant.1,
)

pub returns-clause-index : goal.returns-clause-index
returns-clause-index c = at_last c.args.forms.now c.loop-number.number c.loop-number.index (omega (arith, c.loop-number-test.false, c.len-number-end.ensures)) c.loop-number.invariant.0

pub returns-clause-shared : goal.returns-clause-shared
returns-clause-shared c = c.loop-number.invariant.1
