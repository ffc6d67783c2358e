use Rattle.std.proofs.Common.{arith, length, ltb}
use Rattle.number_sets.specs.Members.{has}
use Rattle.number_sets.specs.Pieces.{list_at}
use Rattle.std.proofs.Common.{ap, ◌∙◌, ◌&&◌, ◌||◌}
use Rattle.taxonomy.specs.Relation.{is_listed}
use Rattle.taxonomy.proofs.Sizes.{marked_by}
use Rattle.taxonomy.proofs.least.mark.Goals as goal

pub returns-clause-strictly : goal.returns-clause-strictly
returns-clause-strictly c = λ k l.
    let classes = c.args.classes.now in
    marked_by (λ x. ltb (length (list_at classes x)) c.len_at-size.result) (has c.args.marks.now.strictly k) (has c.loop-h.marks.strictly k) k c.loop-h.h-index c.at-h-items.result.now
    (list_at classes c.args.c) c.at-h-items.ensures (omega arith) (c.loop-h.invariant.strictly k l)
    ∙ ap (λ n. has c.args.marks.now.strictly k || (is_listed classes c.args.c k && ltb (length (list_at classes k)) n)) c.len_at-size.ensures
