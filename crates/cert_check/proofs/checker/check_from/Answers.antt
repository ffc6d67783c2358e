use Rattle.cert_check.proofs.Readings.{reading}
use Rattle.cert_check.proofs.checker.check_from.Goals as goal

pub verdict_on-requires : goal.verdict_on-requires
verdict_on-requires g c =
    let read = c.tested_certificate-read in
    (_, _, reading c.args.ontology.now _ _ read.result read.ensures.tested read.ensures.fault)
