use Rattle.std.proofs.Common.{arith, length, eqb}
use Rattle.number_sets.specs.Pieces.{list_at}
use Rattle.taxonomy.proofs.Sizes.{filtered_by}
use Rattle.taxonomy.proofs.groups.put_as_large.Goals as goal

pub returns : goal.returns
returns c =
    let classes = c.args.classes.now in
    filtered_by (λ h n. eqb (length (list_at classes h)) n) c.len_at-size.result (length (list_at classes c.args.g)) c.loop-h.h-index c.loop-h.numbers.items c.at-h-items.result.now
    (list_at classes c.args.g) c.len_at-size.ensures c.at-h-items.ensures (omega arith) c.loop-h.invariant
