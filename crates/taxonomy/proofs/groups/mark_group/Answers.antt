use Rattle.std.proofs.Common.{arith, length, eqb, ap, ◌∙◌, ◌&&◌, ◌||◌}
use Rattle.number_sets.specs.Members.{has}
use Rattle.number_sets.specs.Pieces.{list_at}
use Rattle.taxonomy.specs.Relation.{is_listed}
use Rattle.taxonomy.proofs.Sizes.{marked_by}
use Rattle.taxonomy.proofs.groups.mark_group.Goals as goal

pub returns-clause-members : goal.returns-clause-members
returns-clause-members c = λ k l.
    let classes = c.args.classes.now in
    marked_by (λ x. eqb (length (list_at classes x)) c.len_at-size.result) (has c.args.set.now k) (has c.loop-h.set k) k c.loop-h.h-index c.at-h-items.result.now
    (list_at classes c.args.c) c.at-h-items.ensures (omega arith) (c.loop-h.invariant.each k l)
    ∙ ap (λ n. has c.args.set.now k || (is_listed classes c.args.c k && eqb (length (list_at classes k)) n)) c.len_at-size.ensures
