use Rattle.std.proofs.Common.{map, refl, sym, ap, ◌∙◌}
use Rattle.std.specs.String.{string_bytes}
use Rattle.taxonomy.specs.Superclasses.{rows_of}
use Rattle.taxonomy.specs.Texts.{by_name, group, in_byte_order, sorted}
use Rattle.taxonomy.proofs.Arranged.{group_placed}
use Rattle.taxonomy.proofs.Told.{told_as}
use Rattle.taxonomy.proofs.lent.Groups.members.Goals as goal

pub returns : goal.returns
returns c =
    let lists = c.self.inside.classes.now in
    let names = map string_bytes c.self.inside.names.now in
    let kept = c.self.invariant in
    rw (← c.self.view_is)
    (c.in_ok-put_sorted_by_name.ensures
    ∙ ap (sorted (by_name names)) c.deref.ensures.value
    ∙ group_placed lists kept.superclasses names kept.long c.args.g c.put_as_large.new.numbers.items c.in_ok-put_as_large.ensures
    ∙ ap (λ r. group r (in_byte_order names) c.args.g) (sym (told_as lists (rows_of lists) kept.superclasses.sets refl)))
