use Rattle.std.proofs.Common.{◌≡◌, ◌++◌, take}
use Rattle.certificate.specs.Runs.{distances}
use Rattle.certificate.specs.Text.{spaced_numbers}
use Rattle.certificate_text.proofs.writing.push_distances.Given as goal

abbrev pub invariant-loop-premise : goal.invariant-loop-premise
invariant-loop-premise l = l.out.items ≡ l.fn.out.items ++ spaced_numbers (distances l.number (take l.premise-index l.premises))
