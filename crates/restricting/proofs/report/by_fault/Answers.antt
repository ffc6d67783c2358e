use Rattle.std.proofs.Common.{subst}
use Rattle.profile.specs.Faults.{Refuses, StateTooManyNames}
use Rattle.profile.specs.declared.fault.DocumentFault.{DocumentFault}
use Rattle.restricting.proofs.Lined.{faultless_lines}
use Rattle.restricting.proofs.report.by_fault.Goals as goal

pub returns-in-TooManyNames-clause-restricted : goal.returns-in-TooManyNames-clause-restricted
returns-in-TooManyNames-clause-restricted c =
    let version = c.args.version in
    let bytes = c.args.bytes.now in
    let P : DocumentFault → Type 0 = λ fault. Refuses version fault bytes in
    let states : StateTooManyNames version bytes = subst P c.in-TooManyNames.is c.requires in
    faultless_lines version bytes states.document c.restricted.result states.text states.faultless c.restricted.ensures.restricted
