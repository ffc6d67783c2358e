use Rattle.std.proofs.Common.{length, map, sym, ap, ◌∙◌}
use Rattle.std.specs.String.{string_bytes}
use Rattle.std.proofs.lemmas.List.{length-map}
use Rattle.taxonomy.proofs.Arranged.{order_below}
use Rattle.taxonomy.proofs.Told.{length-rows}
use Rattle.taxonomy.proofs.lent.Groups.of.Goals as goal

pub leaders-requires-clause-within : goal.leaders-requires-clause-within
leaders-requires-clause-within c =
    let lists = c.taxonomy.inside.above in
    order_below (map string_bytes c.args.names.now) (length lists) c.deref.result.now (c.deref.ensures.value ∙ c.in_ok-order.ensures)
    (length-map c.args.names.now string_bytes ∙ c.requires ∙ ap length (sym c.taxonomy.view_is) ∙ length-rows lists)
