use Rattle.std.proofs.Common.{[], refl}
use Rattle.std.proofs.lemmas.Option.{none-some}
use Rattle.facts.proofs.table.FactTable.new.Goals as goal

pub invariant_of-result : goal.invariant_of-result
invariant_of-result c = rw c.new-2.ensures (record {
  home = refl;
  distinct = λ m n fact there there'. absurd (none-some fact there);
  linked = c.new-3.ensures c.new.result [];
  marked = c.new-4.ensures [];
})
