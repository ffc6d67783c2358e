use Rattle.std.proofs.Common.{◌≡◌, ◌↔◌, ℕ, ◌<◌, true, length}
use Rattle.cert_check.specs.Additions.{thing_class}
use Rattle.taxonomy.specs.Relation.{is_listed}
use Rattle.cert_check.proofs.claims.thing_lists.Given as goal

abbrev pub invariant-loop-element : goal.invariant-loop-element
invariant-loop-element l = record {
  long : length l.lists ≡ l.count;
  each : (x c : ℕ) → x < length l.lists → (is_listed l.lists x c ≡ true) ↔ ((x < l.element) × (c ≡ thing_class));
}
