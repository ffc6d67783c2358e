use Rattle.std.proofs.Common.{ap, sym}
use Rattle.certificate.specs.Tests.{key}
use Rattle.certificate.specs.View.{class_row_of}
use Rattle.certificate.proofs.LastRow.{last_seen}
use Rattle.certificate.proofs.single_rows.last_class.Goals as goal

pub returns-in-len1-up : goal.returns-in-len1-up
returns-in-len1-up c = sym (ap key (last_seen class_row_of c.args.rows.now c.row-item.result c.row-item.result c.in-len1-up.len_at_least c.row-item.is))
