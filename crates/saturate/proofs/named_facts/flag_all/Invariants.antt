use Rattle.std.proofs.Common.{◌≡◌, ◌≤◌, ℕ, suc, length}
use Rattle.inference.specs.Predicates.{SaysAt, end_of}
use Rattle.saturate.specs.Flags.{AreFlaggedToo}
use Rattle.saturate.proofs.named_facts.flag_all.Given as goal

abbrev pub invariant-loop-next : goal.invariant-loop-next
invariant-loop-next l = record {
  long : length l.flags ≡ length l.facts.facts;
  says : (n : ℕ) → end_of l.next ≡ suc n → SaysAt l.fn.predicate l.facts.facts n;
  too : AreFlaggedToo (λ n. (end_of l.next ≤ n) × SaysAt l.fn.predicate l.facts.facts n) l.fn.flags l.flags;
}

abbrev pub decreases-loop-next : goal.decreases-loop-next
decreases-loop-next l = end_of l.next
