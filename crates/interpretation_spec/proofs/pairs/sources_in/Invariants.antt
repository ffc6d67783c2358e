use Rattle.std.proofs.Common.{◌≡◌, ℕ, ◌<◌, ◌≤◌, length, false}
use Rattle.std.specs.List.{list_any}
use Rattle.interpretation_spec.specs.Fields.{kept_targets}
use Rattle.number_sets.specs.Members.{has}
use Rattle.interpretation_spec.proofs.pairs.sources_in.Given as goal

abbrev pub invariant-loop-source : goal.invariant-loop-source
invariant-loop-source l = record {
  long : length l.sources ≡ l.size;
  done : (k : ℕ) → k < l.source → has l.sources k ≡ list_any (has l.fillers) (kept_targets l.pairs k);
  rest : (k : ℕ) → l.source ≤ k → has l.sources k ≡ false;
}
