use Rattle.std.proofs.Common.{◌<◌, ℕ}
use Rattle.normal_forms.specs.declared.forms.PropId2.{PropId2}
use Rattle.inference.specs.declared.predicates.Predicate.TheVariants as predicates
use Rattle.inference.specs.Predicates.{SaysAt}
use Rattle.saturate.specs.NewSeconds.{IsListedAsSecond, ListsMoreSeconds}
use Rattle.saturate.specs.Requests.{IsNumbered}
use Rattle.saturate.proofs.new_seconds.list_seconds.Given as goal

abbrev pub invariant-loop-number : goal.invariant-loop-number
invariant-loop-number l = record {
  more : ListsMoreSeconds l.facts.facts l.fn.index l.index;
  each : (p : PropId2) (k : ℕ) → k < l.number → IsNumbered l.closure k p → (n : ℕ) → SaysAt (predicates.Property p) l.facts.facts n → IsListedAsSecond l.from l.ground l.facts l.index n;
}
