use Rattle.std.proofs.Common.{length, map, filter, not, refl, sym, ap, ◌∙◌}
use Rattle.std.specs.List.{list_any}
use Rattle.std.specs.String.{string_bytes}
use Rattle.number_sets.specs.Members.{has}
use Rattle.taxonomy.specs.Relation.{is_listed}
use Rattle.taxonomy.specs.Superclasses.{rows_of}
use Rattle.taxonomy.specs.Texts.{by_name, groups, in_byte_order, is_directly_above, is_strictly_above, sorted}
use Rattle.taxonomy.proofs.Arranged.{above_placed}
use Rattle.taxonomy.proofs.Told.{told_as}
use Rattle.taxonomy.proofs.lent.Groups.put_directly_above.Goals as goal

pub returns-clause-above : goal.returns-clause-above
returns-clause-above c =
    let lists = c.self.inside.classes.now in
    let names = map string_bytes c.self.inside.names.now in
    let leading = c.self.inside.leading in
    let kept = c.self.invariant in
    let higher = c.put_larger.new.numbers.items in
    rw (← c.self.view_is)
    (c.in_ok-put_sorted_by_name.ensures
    ∙ ap (sorted (by_name names)) c.deref-2.ensures.value
    ∙ above_placed lists kept.superclasses names kept.long leading kept.leads c.args.g
    higher (filter (λ g. not (list_any (λ k. is_strictly_above (is_listed lists) k g) higher)) higher) c.put_least.new.found.items c.in_ok-put_larger.ensures
    refl
    (c.in_ok-put_least.ensures.least ∙ ap (λ ks. filter (has leading) (filter (λ g. not (list_any (λ k. is_strictly_above (is_listed lists) k g) ks)) ks)) c.deref.ensures.value)
    ∙ ap (λ n. filter (is_directly_above (is_listed lists) n c.args.g) (groups (is_listed lists) (in_byte_order names))) (sym kept.long)
    ∙ ap (λ r. filter (is_directly_above r (length names) c.args.g) (groups r (in_byte_order names))) (sym (told_as lists (rows_of lists) kept.superclasses.sets refl)))
