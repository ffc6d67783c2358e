use Rattle.std.proofs.Common.{◌<◌, ◌++◌, [], ◌∷◌, length, map, take, sym, ap, ap₂, ◌∙◌, arith}
use Rattle.std.proofs.lemmas.List.{map-append, take_all, take_more}
use Rattle.number_sets.specs.Pieces.{list_at}
use Rattle.taxonomy.specs.Superclasses.{filled}
use Rattle.taxonomy.proofs.Filled.{length-filled}
use Rattle.taxonomy.proofs.superclasses.sizes_of.Goals as goal

pub loop-c-preserved : goal.loop-c-preserved
loop-c-preserved c =
    let lists = c.args.lists.now in
    let apart = c.args.apart.now in
    let whole = filled (length lists) apart lists in
    let i = c.loop-c.c in
    let long = length-filled (length lists) apart lists c.requires in
    let low : i < length whole = omega (arith, long, c.loop-c-test.true, c.len-c-end.ensures) in
    rw c.in_ok-push.ensures.items
    (ap₂ (λ xs x. xs ++ x ∷ []) c.loop-c.invariant c.size_at.ensures
    ∙ sym (ap (map length) (take_more whole i [] low) ∙ map-append length (take i whole) (list_at whole i ∷ [])))

pub returns : goal.returns
returns c =
    let lists = c.args.lists.now in
    let apart = c.args.apart.now in
    let whole = filled (length lists) apart lists in
    let long = length-filled (length lists) apart lists c.requires in
    c.loop-c.invariant ∙ ap (map length) (take_all c.loop-c.c whole (omega (arith, long, c.loop-c-test.false, c.len-c-end.ensures)))
