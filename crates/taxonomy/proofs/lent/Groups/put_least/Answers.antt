use Rattle.std.proofs.Common.{map, filter, length, not, refl, sym, ap, subst, ◌∙◌}
use Rattle.std.specs.List.{list_any}
use Rattle.std.specs.String.{string_bytes}
use Rattle.taxonomy.specs.Relation.{is_listed}
use Rattle.taxonomy.specs.Superclasses.{is_among, rows_of, IsSetOf}
use Rattle.taxonomy.specs.Texts.{by_name, groups, in_byte_order, is_strictly_above, least_among, least_groups, sorted}
use Rattle.taxonomy.proofs.Arranged.{types_placed}
use Rattle.taxonomy.proofs.Told.{told_as}
use Rattle.taxonomy.proofs.lent.Groups.put_least.Goals as goal

pub returns-clause-least : goal.returns-clause-least
returns-clause-least c =
    let lists = c.self.inside.classes.now in
    let names = map string_bytes c.self.inside.names.now in
    let leading = c.self.inside.leading in
    let kept = c.self.invariant in
    let types = c.args.types.now in
    let shown = c.put_least.new.found.items in
    let once = c.put_once.new.found.items in
    let set : IsSetOf (length lists) shown once =
    subst (λ n. IsSetOf n shown once) c.put_least.ensures.room.above
    (subst (λ list. IsSetOf (length c.put_least.new.marks.above) list once) c.deref.ensures.value c.in_ok-put_once.ensures.set) in
    rw (← c.self.view_is)
    (c.in_ok-put_sorted_by_name.ensures
    ∙ ap (sorted (by_name names)) c.deref-2.ensures.value
    ∙ types_placed lists kept.superclasses names kept.long leading kept.leads types
    (filter (λ g. not (list_any (λ k. is_strictly_above (is_listed lists) k g) types)) types) shown once refl
    c.in_ok-put_least.ensures.least set
    ∙ ap (λ n. filter (least_among n (is_listed lists) (is_among types)) (groups (is_listed lists) (in_byte_order names))) (sym kept.long)
    ∙ ap (λ r. least_groups names r (is_among types)) (sym (told_as lists (rows_of lists) kept.superclasses.sets refl)))
