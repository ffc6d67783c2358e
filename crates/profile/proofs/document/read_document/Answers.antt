use Rattle.profile.proofs.Readings.{opened_read}
use Rattle.profile.proofs.document.read_document.Goals as goal

pub returns-in-Ok-clause-read : goal.returns-in-Ok-clause-read
returns-in-Ok-clause-read g c = opened_read c.args.limits.now.version (g.S.Source.left c.args.source.now) c.args.limits.now.max_bytes c.in-Ok.opened c.in-Ok.ensures.read
