use Rattle.cli.proofs.SpokenSessions.{sessions_are_answered}
use Rattle.cli.proofs.spoken_sessions_are_answered.Goals as goal

pub returns : goal.returns
returns c = sessions_are_answered
