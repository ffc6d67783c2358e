use Rattle.std.proofs.Common.{arith}
use Rattle.profile.proofs.Readings.{answer_opened, answer_refused, version_kept}
use Rattle.profile.proofs.document.read_opened.Goals as goal

pub returns-in-Ok-clause-read : goal.returns-in-Ok-clause-read
returns-in-Ok-clause-read g c =
    answer_opened c.args.limits.now.version c.opened_bytes.result (g.S.Source.left c.args.source.now) (g.S.Source.left c.read_all.new.source) c.in-Ok.bytes.items c.deref.result.now c.args.limits.now.max_bytes c.in-Ok.ensures.ok c.in-Ok.ensures.end (omega (arith, c.in-Ok.ensures.within)) c.deref.ensures.value c.opened_bytes.ensures.read

pub returns-in-Ok-clause-refused : goal.returns-in-Ok-clause-refused
returns-in-Ok-clause-refused g c =
    answer_refused c.args.limits.now.version c.opened_bytes.result (g.S.Source.left c.args.source.now) (g.S.Source.left c.read_all.new.source) c.in-Ok.bytes.items c.deref.result.now c.args.limits.now.max_bytes c.in-Ok.ensures.ok c.in-Ok.ensures.end (omega (arith, c.in-Ok.ensures.within)) c.deref.ensures.value c.opened_bytes.ensures.refused

pub returns-in-Ok-clause-version : goal.returns-in-Ok-clause-version
returns-in-Ok-clause-version g c = version_kept c.args.limits.now.version c.opened_bytes.result c.deref.result.now c.opened_bytes.ensures.read
