use Rattle.saturate.proofs.queue.Queue.turn.Goals as goal

pub returns-else-is_none-clause-named : goal.returns-else-is_none-clause-named
returns-else-is_none-clause-named g c = λ x waits. c.fill.ensures.named x (c.take.ensures.waiting x waits)
