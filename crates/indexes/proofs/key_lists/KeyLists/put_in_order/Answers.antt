use Rattle.std.proofs.Common.{◌↔◌, ℕ, Contains}
use Rattle.normal_forms.specs.declared.forms.Form.{Form}
use Rattle.indexes.specs.FormIndex.{at_key, AreInOrder}
use Rattle.indexes.specs.Lists.{list_at}
use Rattle.indexes.specs.Seconds.{IsInOrder}
use Rattle.indexes.specs.declared.lists.Lists.{Lists}
use Rattle.indexes.specs.declared.key_lists.KeyLists.{KeyLists}
use Rattle.indexes.specs.declared.keys.Key.{Key}
use Rattle.indexes.specs.declared.keys.Key.TheVariants.{Whole, Partial}
use Rattle.std.specs.Prelude.{List}
use Rattle.indexes.proofs.key_lists.KeyLists.put_in_order.Goals as goal

abbrev HasSame : Lists → Lists → Type 0
HasSame old new = (k n : ℕ) → Contains (list_at new.starts.items new.numbers.items k) n ↔ Contains (list_at old.starts.items old.numbers.items k) n

same : (old new : KeyLists) → HasSame old.wholes new.wholes → HasSame old.partials new.partials → (k : Key) (n : ℕ) → Contains (at_key new k) n ↔ Contains (at_key old k) n
same old new wholes partials (Whole k) n = wholes k n
same old new wholes partials (Partial k) n = partials k n

abbrev IsOrdered : List Form → Lists → Type 0
IsOrdered forms lists = (k : ℕ) → IsInOrder forms (list_at lists.starts.items lists.numbers.items k)

order : (forms : List Form) (lists : KeyLists) → IsOrdered forms lists.wholes → IsOrdered forms lists.partials → AreInOrder forms (at_key lists)
order forms lists wholes partials (Whole k) = wholes k
order forms lists wholes partials (Partial k) = partials k

pub returns : goal.returns
returns c =
    let new : KeyLists = record { wholes = c.put_in_order.new.self; partials = c.put_in_order-2.new.self } in
    record {
      same = same c.args.self.now new c.put_in_order.ensures.same c.put_in_order-2.ensures.same;
      order = order c.args.forms.now new c.put_in_order.ensures.order c.put_in_order-2.ensures.order;
    }
