use Rattle.std.proofs.Common.{arith}
use Rattle.cert_check.specs.View.{said_of}
use Rattle.cert_check.proofs.Checked.{said_there}
use Rattle.cert_check.proofs.derivation.said_at.Goals as goal

pub returns : goal.returns
returns c = said_there said_of c.args.said.now c.in_ok-place.place c.args.number c.at_place.result c.at_place.ensures (omega arith)
