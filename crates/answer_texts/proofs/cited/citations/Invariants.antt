use Rattle.std.proofs.Common.{◌≡◌, take}
use Rattle.std.specs.List.{flat_map}
use Rattle.certificate.specs.View.{lines_of}
use Rattle.certificate.specs.Writability.{axiom_numbers}
use Rattle.answer_texts.proofs.cited.citations.Given as goal

abbrev pub invariant-loop-line : goal.invariant-loop-line
invariant-loop-line l = l.numbers.items ≡ flat_map (λ line. axiom_numbers line.axiom') (lines_of (take l.line-index l.lines))
