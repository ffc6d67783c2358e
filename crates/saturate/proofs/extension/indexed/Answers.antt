use Rattle.std.proofs.Common.{[]}
use Rattle.std.proofs.lemmas.List.Elements.{Contains-get_or}
use Rattle.saturate.proofs.Flagging.{kept_more}
use Rattle.saturate.proofs.Listing.{nothing_listed}
use Rattle.saturate.proofs.extension.indexed.Goals as goal

pub loop-number-init : goal.loop-number-init
loop-number-init c = rw c.expect.ensures (nothing_listed c.args.ground.now c.args.facts.now [] c.new-index.result c.new-index.ensures)

pub index_kept-requires-clause-number : goal.index_kept-requires-clause-number
index_kept-requires-clause-number c = c.requires.numbers _ (Contains-get_or c.args.numbers.now c.loop-number.number-index 0 c.loop-number-test.true)

pub loop-number-preserved : goal.loop-number-preserved
loop-number-preserved c = rw (kept_more c.args.flags.now c.args.numbers.now c.loop-number.number-index 0 c.loop-number-test.true) (c.in_ok-index_kept.ensures _ c.loop-number.invariant)
