use Rattle.shapes.proofs.Table.{found_after, new_where_not_found}
use Rattle.shapes.proofs.operand.is_new.Goals as goal

pub returns-clause-new : goal.returns-clause-new
returns-clause-new c = new_where_not_found (record { tree = c.args.tree }) c.args.seen.now.keys c.in_ok-new.new c.in_ok-new.ensures.added

pub returns-clause-seen : goal.returns-clause-seen
returns-clause-seen c = found_after (record { tree = c.args.tree }) c.args.seen.now.keys c.insert.new.self.keys c.in_ok-new.ensures.keys
