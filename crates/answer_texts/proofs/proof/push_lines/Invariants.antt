use Rattle.std.proofs.Common.{◌≡◌, ◌++◌, take}
use Rattle.std.specs.List.{flat_map, enumerate_from}
use Rattle.certificate.specs.View.{lines_of}
use Rattle.answer_texts.specs.Proof as proof
use Rattle.answer_texts.proofs.proof.push_lines.Given as goal

abbrev pub invariant-loop-place : goal.invariant-loop-place
invariant-loop-place l = l.out.items ≡ l.fn.out.items ++ flat_map (proof.line_text l.ontology) (enumerate_from 1 (lines_of (take l.place l.lines)))
