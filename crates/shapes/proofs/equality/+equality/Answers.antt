use Rattle.std.proofs.Common.{sym}
use Rattle.shapes.proofs.Lists.{lengths_differ}
use Rattle.shapes.proofs.equality.+equality.Goals as goal

pub same_trees-returns-then-a-b : goal.same_trees-returns-then-a-b
same_trees-returns-then-a-b t c = sym (lengths_differ c.args.a.now c.args.b.now c.if-a-b.true)
