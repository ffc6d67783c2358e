use Rattle.saturate.proofs.Removing.{none_in_hand, some_in_hand}
use Rattle.saturate.proofs.extension.remove_pending.Goals as goal

pub returns-in-Some : goal.returns-in-Some
returns-in-Some c = rw c.in-Some.is (some_in_hand c.args.flags.now c.in-Some.hand c.remove_flagged.ensures c.get.ensures c.remove.ensures)

pub returns-in_default : goal.returns-in_default
returns-in_default c = rw c.in_default.is (none_in_hand c.args.flags.now c.remove_flagged.ensures)
