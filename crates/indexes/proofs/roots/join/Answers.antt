use Rattle.std.proofs.Common.{arith}
use Rattle.indexes.proofs.Paths.{joins_first, joins_second}
use Rattle.indexes.proofs.roots.join.Goals as goal

pub returns-then-low-high : goal.returns-then-low-high
returns-then-low-high c =
    let a = c.root-low in
    let b = c.root-high in
    joins_second c.args.table.now a.new.table b.new.table c.args.first c.args.second a.result b.result
    a.ensures.shortens a.ensures.root b.ensures.shortens b.ensures.root (omega (arith, c.if-low-high.true))

pub returns-else-low-high : goal.returns-else-low-high
returns-else-low-high c =
    let a = c.root-low in
    let b = c.root-high in
    joins_first c.args.table.now a.new.table b.new.table c.args.first c.args.second a.result b.result
    a.ensures.shortens a.ensures.root b.ensures.shortens b.ensures.root (omega (arith, c.if-low-high.false))
