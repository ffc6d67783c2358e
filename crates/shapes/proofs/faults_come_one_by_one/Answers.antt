use Rattle.shapes.proofs.Places.{one_by_one}
use Rattle.shapes.proofs.faults_come_one_by_one.Goals as goal

pub returns : goal.returns
returns c = one_by_one
