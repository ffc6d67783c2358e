use Rattle.restricting.proofs.Lined.{plainly}
use Rattle.restricting.proofs.report.reported.Goals as goal

pub returns-else-lines-clause-restricted : goal.returns-else-lines-clause-restricted
returns-else-lines-clause-restricted c = plainly c.args.version c.args.bytes.now c.restricted.result c.args.lines c.if-lines.false c.restricted.ensures.restricted
