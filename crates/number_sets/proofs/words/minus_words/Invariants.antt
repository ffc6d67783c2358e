use Rattle.std.proofs.Common.{◌≡◌, ℕ, ◌<◌, ◌≤◌, get_or}
use Rattle.number_sets.specs.Words.{without_bits}
use Rattle.number_sets.proofs.words.minus_words.Given as goal

abbrev pub invariant-loop-i : goal.invariant-loop-i
invariant-loop-i l = record {
  done : (k : ℕ) → k < l.i → get_or l.a k 0 ≡ without_bits (get_or l.fn.a k 0) (get_or l.b k 0);
  rest : (k : ℕ) → l.i ≤ k → get_or l.a k 0 ≡ get_or l.fn.a k 0;
}
