use Rattle.std.proofs.Common.{List, ℕ, refl, subst}
use Rattle.restricting.proofs.Restricted.{never_large, read_until, restricted_as, unread_unrestricted, unrestricted}
use Rattle.device.specs.Device.{AppendsPrefix}
use Rattle.source_lines.specs.Sources.{source_state}
use Rattle.restricting.proofs.restricting.restrict_document.Goals as goal

pub returns-in-Err-clause-answered : goal.returns-in-Err-clause-answered
returns-in-Err-clause-answered g c =
    (unread_unrestricted c.args.limits.now.version c.args.limits.now.max_bytes (g.D.Source.left c.args.document.now) _ c.in-Err.fault c.in-Err.ensures.unread, refl)

pub returns-in-Err-reported-clause-answered : goal.returns-in-Err-reported-clause-answered
returns-in-Err-reported-clause-answered g c =
    (unrestricted c.args.limits.now.version c.args.limits.now.max_bytes (g.D.Source.left c.args.document.now) c.in-Ok.bytes.items c.deref.result.now c.in-Err-reported.fault c.in-Ok.ensures.known c.in-Ok.ensures.within c.deref.ensures.value c.in-Err-reported.ensures.refused, refl)

pub returns-in-Err-reported-clause-beyond : goal.returns-in-Err-reported-clause-beyond
returns-in-Err-reported-clause-beyond g c = λ large. absurd (never_large c.args.limits.now.version c.deref.result.now c.in-Err-reported.fault c.in-Err-reported.ensures.refused large)

pub returns-in-Err-reported-clause-read : goal.returns-in-Err-reported-clause-read
returns-in-Err-reported-clause-read g c =
    read_until c.args.limits.now.version c.deref.result.now c.in-Err-reported.fault (source_state g.D.Source c.args.document.now) (source_state g.D.Source c.document_bytes.new.document) c.in-Err-reported.ensures.refused c.in-Ok.ensures.read

pub returns-clause-answered : goal.returns-clause-answered
returns-clause-answered g c =
    let restriction = c.in-Ok-reported.restriction in
    let Begun : List ℕ → Type 0 = λ text. AppendsPrefix (g.S.Sink.taken c.args.output.now) (g.S.Sink.taken c.write_all.new.sink) text in
    let is = restricted_as c.args.lines c.args.limits.now.version c.args.limits.now.max_bytes (g.D.Source.left c.args.document.now) c.in-Ok.bytes.items c.deref.result.now restriction c.in-Ok.ensures.known c.in-Ok.ensures.within c.deref.ensures.value c.in-Ok-reported.ensures.restricted in
    (restriction, is, (subst Begun c.deref-2.ensures.value c.in-Err-write_all.ensures.begun, c.in-Err-write_all.ensures.failed))
