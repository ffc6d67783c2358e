use Rattle.std.proofs.Common.{ap, sym}
use Rattle.certificate.specs.Tests.{pair_key}
use Rattle.certificate.specs.View.{pair_row_of}
use Rattle.certificate.proofs.LastRow.{last_seen}
use Rattle.certificate.proofs.single_rows.last_pair.Goals as goal

pub returns-in-len1-up : goal.returns-in-len1-up
returns-in-len1-up c = sym (ap pair_key (last_seen pair_row_of c.args.rows.now c.row-item.result c.row-item.result c.in-len1-up.len_at_least c.row-item.is))
