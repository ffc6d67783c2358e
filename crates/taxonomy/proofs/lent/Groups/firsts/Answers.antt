use Rattle.std.proofs.Common.{map, refl, sym, ap, ◌∙◌}
use Rattle.std.specs.String.{string_bytes}
use Rattle.taxonomy.specs.Superclasses.{rows_of}
use Rattle.taxonomy.specs.Texts.{groups, in_byte_order}
use Rattle.taxonomy.proofs.Told.{told_as}
use Rattle.taxonomy.proofs.lent.Groups.firsts.Goals as goal

pub returns : goal.returns
returns c =
    let lists = c.self.inside.classes.now in
    let names = map string_bytes c.self.inside.names.now in
    let kept = c.self.invariant in
    rw (← c.self.view_is)
    (c.in_ok-to_vec.ensures.items_if_clones_equal (λ x y e. e)
    ∙ c.as_slice.ensures.value
    ∙ kept.firsts
    ∙ ap (λ r. groups r (in_byte_order names)) (sym (told_as lists (rows_of lists) kept.superclasses.sets refl)))
