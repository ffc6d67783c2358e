use Rattle.engine_tests.proofs.asked.saturated_with.Goals as goal

pub returns-in-Ok : goal.returns-in-Ok
returns-in-Ok c = (c.resume.ensures.saturates c.args.new.now c.in_ok-asked.ensures.sound).sound
