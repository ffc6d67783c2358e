use Rattle.std.proofs.Common.{◌≡◌, ℕ, ◌&&◌, ltb, length, take}
use Rattle.number_sets.specs.Members.{has}
use Rattle.taxonomy.specs.Superclasses.{is_among, AreOnce}
use Rattle.taxonomy.proofs.collecting.put_once.Given as goal

abbrev pub invariant-loop-d : goal.invariant-loop-d
invariant-loop-d l = record {
  room : length l.seen ≡ length l.fn.seen;
  once : AreOnce l.found.items;
  put : (k : ℕ) → has l.seen k ≡ is_among l.found.items k;
  members : (k : ℕ) → is_among l.found.items k ≡ (is_among (take l.d-index l.list) k && ltb k (length l.fn.seen));
}
