use Rattle.std.proofs.Common.{length, cond, refl, sym, ap, ◌∙◌}
use Rattle.number_sets.specs.Pieces.{list_at}
use Rattle.taxonomy.specs.Superclasses.{filled}
use Rattle.taxonomy.specs.Texts.{numbers_below}
use Rattle.taxonomy.proofs.Filled.{apart_at}
use Rattle.taxonomy.proofs.Told.{length-numbers}
use Rattle.taxonomy.proofs.superclasses.size_at.Goals as goal

pub returns-then-contains : goal.returns-then-contains
returns-then-contains c =
    let lists = c.args.lists.now in
    let apart = c.args.apart.now in
    let n = length lists in
    c.len.ensures ∙ sym (length-numbers n)
    ∙ sym (ap length (apart_at n apart lists (filled n apart lists) c.args.c c.contains.result c.requires refl c.contains.ensures ∙ ap (λ b. cond b (numbers_below n) (list_at lists c.args.c)) c.if-contains.true))

pub returns-else-contains : goal.returns-else-contains
returns-else-contains c =
    let lists = c.args.lists.now in
    let apart = c.args.apart.now in
    let n = length lists in
    c.len_at.ensures
    ∙ sym (ap length (apart_at n apart lists (filled n apart lists) c.args.c c.contains.result c.requires refl c.contains.ensures ∙ ap (λ b. cond b (numbers_below n) (list_at lists c.args.c)) c.if-contains.false))
