use Rattle.std.proofs.Common.{◌≡◌, ◌++◌, map, take}
use Rattle.session.specs.TextAnswers.{name_lines}
use Rattle.session.proofs.listed.push_lines.Given as goal

abbrev pub invariant-loop-name : goal.invariant-loop-name
invariant-loop-name l = l.out.items ≡ l.fn.out.items ++ name_lines l.word (map (λ s. s.now) (take l.name-index l.names))
