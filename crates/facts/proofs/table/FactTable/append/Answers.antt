use Rattle.std.proofs.Common.{Contains, sym, subst}
use Rattle.facts.proofs.Facts.{distinct_push}
use Rattle.facts.proofs.table.FactTable.append.Goals as goal

pub invariant_of-self-2 : goal.invariant_of-self-2
invariant_of-self-2 c =
    let facts = c.self.inside.facts.facts in
    rw c.in_ok-push.ensures.added (record {
      home = c.self.invariant.home;
      distinct = distinct_push facts c.args.fact c.self.invariant.distinct (subst (λ facts. Contains facts c.args.fact → ⊥) (sym c.self.view_is) c.requires.new);
      linked = rw c.as_slice.ensures.value at c.in_ok-add.ensures.added;
      marked = c.add-2.ensures facts c.self.invariant.marked c.len-place.ensures.value;
    })
