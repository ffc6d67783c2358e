-- What a run is whose words ask for the version.
use Rattle.std.proofs.Common.{inl, inr}
use Rattle.command_line.specs.declared.tasks.LineFault.TheVariants.{Line, Memory}
use Rattle.cli.specs.WordsOfRuns.{WordsOfVersionTell}

pub words_version : WordsOfVersionTell
words_version words s content content' old new status asks (inl run) = absurd (run.3 asks)
words_version words s content content' old new status asks (inr (inl told)) = inl (told.1, told.2)
words_version words s content content' old new status asks (inr (inr (Line error, refuses, same, told))) = absurd (refuses.1 asks)
words_version words s content content' old new status asks (inr (inr (Memory, refuses, same, told))) = inr (same, told)
