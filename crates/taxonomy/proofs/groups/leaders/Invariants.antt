use Rattle.std.proofs.Common.{◌++◌, ◌<◌, ◌≡◌, ℕ, drop, length}
use Rattle.std.specs.List.{list_any}
use Rattle.number_sets.specs.Members.{has}
use Rattle.taxonomy.specs.Texts.{firsts, groups, is_same}
use Rattle.taxonomy.specs.Relation.{is_listed}
use Rattle.taxonomy.proofs.groups.leaders.Given as goal

abbrev pub invariant-loop-c : goal.invariant-loop-c
invariant-loop-c l = record {
  first : l.found.items ++ firsts (is_listed l.classes) l.found.items (drop l.c-index l.order) ≡ groups (is_listed l.classes) l.order;
  long : length l.grouped ≡ length l.classes;
  each : (k : ℕ) → k < length l.classes → has l.grouped k ≡ list_any (is_same (is_listed l.classes) k) l.found.items;
}
