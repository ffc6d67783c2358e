use Rattle.std.proofs.Common.{arith, ◌∙◌}
use Rattle.taxonomy.proofs.Told.{length-rows, told}
use Rattle.taxonomy.proofs.relation.Relation.of_superclasses.Goals as goal

pub returns-clause-each : goal.returns-clause-each
returns-clause-each c = λ a d la ld.
    let lists = c.in_ok-of_lists.field-0 in
    let size = length-rows lists ∙ c.in_ok-of_lists.ensures.len in
    told lists c.in_ok-of_lists.ensures.sets.within a d ∙ c.in_ok-of_lists.ensures.each a d (omega (arith, size, la)) (omega (arith, size, ld))
