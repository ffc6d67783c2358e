use Rattle.saturate.proofs.Extending.{restored}
use Rattle.saturate.proofs.extension.begun_again.Goals as goal

pub returns-in_default-clause-facts : goal.returns-in_default-clause-facts
returns-in_default-clause-facts g c = restored c.requires.derived (rw c.expect.ensures at (c.begun.ensures c.args.queue.now.served (rw (c.problem-problem.ensures, c.expect.ensures) c.requires.entered)).grows) c.len-before.result c.len-before.ensures.value c.truncate.ensures.facts c.truncate.ensures.births

pub returns-in_default-unserve-clause-facts : goal.returns-in_default-unserve-clause-facts
returns-in_default-unserve-clause-facts g c = restored c.requires.derived (rw c.expect.ensures at (c.begun.ensures c.args.queue.now.served (rw (c.problem-problem.ensures, c.expect.ensures) c.requires.entered)).grows) c.len-before.result c.len-before.ensures.value c.truncate-in_default-unserve.ensures.facts c.truncate-in_default-unserve.ensures.births

pub begun-requires-clause-entered : goal.begun-requires-clause-entered
begun-requires-clause-entered g c = λ many is. rw (c.problem-problem.ensures, c.expect.ensures) ((c.requires.entered many is).roots)
