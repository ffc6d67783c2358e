use Rattle.cli.proofs.FilesAccepted.{runs_are_accepted}
use Rattle.cli.proofs.written_files_are_accepted.Goals as goal

pub returns : goal.returns
returns c = runs_are_accepted
