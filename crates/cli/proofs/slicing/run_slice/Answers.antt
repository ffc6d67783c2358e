use Rattle.session.specs.Edits.{Resumed}
use Rattle.cli.proofs.slicing.run_slice.Goals as goal

pub returns-clause-call : goal.returns-clause-call
returns-clause-call c =
    let resumed = c.resume-ended.ensures in
    (Resumed c.resume-ended.result, (resumed.ontology, resumed.others, resumed.resumed, resumed.saturates))
