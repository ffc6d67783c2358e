use Rattle.std.proofs.Common.{◌≡◌, ◌++◌, map, drop, option_map}
use Rattle.certificate.specs.View.{conclusion_of}
use Rattle.cert_check.specs.Derivation.{at_numbers}
use Rattle.cert_check.specs.View.{said_of}
use Rattle.cert_check.proofs.derivation.gather.Given as goal

abbrev pub invariant-loop-number : goal.invariant-loop-number
invariant-loop-number l =
    at_numbers (map said_of l.said) l.numbers
    ≡ option_map (λ others. map conclusion_of l.premises.items ++ others) (at_numbers (map said_of l.said) (drop l.number-index l.numbers))
