use Rattle.std.proofs.Common.{◌≡◌, ◌++◌, take}
use Rattle.answer_texts.specs.Cited.{cited_lines}
use Rattle.answer_texts.proofs.cited.push_all.Given as goal

abbrev pub invariant-loop-number : goal.invariant-loop-number
invariant-loop-number l = l.out.items ≡ l.fn.out.items ++ cited_lines l.ontology (take l.number-index l.numbers)
