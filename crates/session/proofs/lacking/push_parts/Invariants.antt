use Rattle.std.proofs.Common.{◌≡◌, ◌++◌, take}
use Rattle.session.specs.TextAnswers.{part_lines}
use Rattle.session.proofs.lacking.push_parts.Given as goal

abbrev pub invariant-loop-part : goal.invariant-loop-part
invariant-loop-part l = l.out.items ≡ l.fn.out.items ++ part_lines l.ontology (take l.part-index l.parts)
