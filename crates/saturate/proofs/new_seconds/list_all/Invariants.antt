use Rattle.std.proofs.Common.{◌≡◌, ◌≤◌, ℕ, suc}
use Rattle.inference.specs.declared.predicates.Predicate.TheVariants as predicates
use Rattle.inference.specs.Predicates.{SaysAt, end_of}
use Rattle.saturate.specs.NewSeconds.{IsListedAsSecond, ListsMoreSeconds}
use Rattle.saturate.proofs.new_seconds.list_all.Given as goal

abbrev pub invariant-loop-next : goal.invariant-loop-next
invariant-loop-next l = record {
  more : ListsMoreSeconds l.facts.facts l.fn.index l.index;
  says : (n : ℕ) → end_of l.next ≡ suc n → SaysAt (predicates.Property l.fn.property) l.facts.facts n;
  each : (from n : ℕ) → end_of l.next ≤ n → SaysAt (predicates.Property l.fn.property) l.facts.facts n → IsListedAsSecond from l.ground l.facts l.index n;
}

abbrev pub decreases-loop-next : goal.decreases-loop-next
decreases-loop-next l = end_of l.next
