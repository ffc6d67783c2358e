use Rattle.indexes.proofs.Tables.{put_adds, put_last}
use Rattle.indexes.proofs.table.Table.add.Goals as goal

pub returns-clause-ok : goal.returns-clause-ok
returns-clause-ok c = put_adds c.args.self.now c.loop-self.self c.put.new.self c.args.key c.args.number c.loop-self.invariant c.in_ok-put.ensures.ok

pub returns-clause-last : goal.returns-clause-last
returns-clause-last c = put_last c.args.self.now c.loop-self.self c.put.new.self c.args.key c.args.number c.loop-self.invariant c.in_ok-put.ensures.ok
