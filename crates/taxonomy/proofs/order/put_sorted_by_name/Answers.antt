use Rattle.std.proofs.Common.{map}
use Rattle.std.specs.String.{string_bytes}
use Rattle.taxonomy.proofs.ByteOrder.{sorted_is}
use Rattle.taxonomy.proofs.order.put_sorted_by_name.Goals as goal

pub returns : goal.returns
returns c =
    let sorted = sorted_is (map string_bytes c.args.names.now) c.args.numbers.now c.put_named.new.pairs.items c.sort_unstable.new.self.items c.in_ok-put_named.ensures.numbers c.in_ok-put_named.ensures.names c.sort_unstable.ensures.permutation c.sort_unstable.ensures.sorted in
    rw (← sorted, ← c.deref.ensures.value) c.put_numbers.ensures
