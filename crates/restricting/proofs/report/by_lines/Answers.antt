use Rattle.restricting.proofs.Lined.{faultless_lines}
use Rattle.restricting.proofs.report.by_lines.Goals as goal

pub returns-clause-restricted : goal.returns-clause-restricted
returns-clause-restricted c =
    let reads = c.in-Ok.ensures.read in
    faultless_lines c.args.version c.args.bytes.now reads.document c.restricted.result reads.text reads.read.faultless c.restricted.ensures.restricted
