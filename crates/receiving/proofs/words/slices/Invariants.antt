use Rattle.std.proofs.Common.{◌≡◌, map, string_bytes, take}
use Rattle.receiving.proofs.words.slices.Given as goal

abbrev pub invariant-loop-word : goal.invariant-loop-word
invariant-loop-word l = map (λ w. w.now) l.slices.items ≡ map string_bytes (take l.word-index l.words)
