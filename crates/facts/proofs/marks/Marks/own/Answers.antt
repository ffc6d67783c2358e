use Rattle.facts.proofs.marks.Marks.own.Goals as goal

pub fill-requires-clause-marked : goal.fill-requires-clause-marked
fill-requires-clause-marked c = c.clear.ensures.marked c.args.table.now.facts

pub returns-then-is_err : goal.returns-then-is_err
returns-then-is_err c = c.clear-then-is_err.ensures.marked c.args.table.now.facts
