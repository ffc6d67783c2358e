use Rattle.std.proofs.Common.{◌≡◌, ◌++◌, take}
use Rattle.std.specs.List.{flat_map, enumerate_from}
use Rattle.certificate.specs.Text.{individual_text}
use Rattle.certificate_text.proofs.writing.push_individuals.Given as goal

abbrev pub invariant-loop-number : goal.invariant-loop-number
invariant-loop-number l = l.out.items ≡ l.fn.out.items ++ flat_map individual_text (enumerate_from 0 (take l.number l.elements))
