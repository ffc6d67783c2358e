use Rattle.receiving.proofs.FilesRight.{files_are_right}
use Rattle.receiving.proofs.Received.{received_right}
use Rattle.receiving.proofs.accepted_files_are_right.Goals as goal

pub returns : goal.returns
returns c = record { check = files_are_right; elcheck = received_right }
