use Rattle.profile.proofs.Takings.{accepted, not_accepted}
use Rattle.profile.proofs.acceptance.accept.Goals as goal

pub returns-in-Ok-take_all-clause-read : goal.returns-in-Ok-take_all-clause-read
returns-in-Ok-take_all-clause-read c =
    accepted c.args.version c.deref.result.now c.args.document.now.trees.items c.deref.ensures.value c.in-Ok.reader c.take_all.new.reader c.in-Ok-take_all.ensures.taken c.in-Ok.ensures c.finish.result c.finish.ensures.read

pub returns-in-Ok-take_all-clause-refused : goal.returns-in-Ok-take_all-clause-refused
returns-in-Ok-take_all-clause-refused c =
    not_accepted c.args.version c.deref.result.now c.args.document.now.trees.items c.deref.ensures.value c.in-Ok.reader c.take_all.new.reader c.in-Ok-take_all.ensures.taken c.in-Ok.ensures c.finish.result c.finish.ensures.refused
