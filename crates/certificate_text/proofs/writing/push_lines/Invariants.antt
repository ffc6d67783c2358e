use Rattle.std.proofs.Common.{◌≡◌, ◌++◌, take}
use Rattle.certificate.specs.Text.{lines_text}
use Rattle.certificate.specs.View.{lines_of}
use Rattle.certificate_text.proofs.writing.push_lines.Given as goal

abbrev pub invariant-loop-place : goal.invariant-loop-place
invariant-loop-place l = l.out.items ≡ l.fn.out.items ++ lines_text l.format 1 (lines_of (take l.place l.lines))
