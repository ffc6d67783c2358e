use Rattle.std.proofs.Common.{refl}
use Rattle.restricting.proofs.Lined.{with_lines}
use Rattle.restricting.proofs.report.faulty.Goals as goal

pub returns-in-Ok-lined_report-clause-restricted : goal.returns-in-Ok-lined_report-clause-restricted
returns-in-Ok-lined_report-clause-restricted c =
    with_lines c.args.version c.args.bytes.now c.args.faults.now c.in-Ok.plain (record { text = c.in-Ok.plain.text; report = c.in-Ok-lined_report.report }) c.as_str.result.now refl c.requires c.in-Ok.ensures.restricted c.as_str.ensures.value c.in-Ok-lined_report.ensures
