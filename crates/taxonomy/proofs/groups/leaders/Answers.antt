use Rattle.std.proofs.Common.{◌≡◌, ◌++◌, ◌<◌, length, get_or, sym, ap, ◌∙◌, arith}
use Rattle.std.specs.List.{list_any}
use Rattle.number_sets.specs.Members.{has}
use Rattle.taxonomy.specs.Texts.{is_same}
use Rattle.taxonomy.specs.Relation.{is_listed}
use Rattle.taxonomy.proofs.Lines.{firsts-skip, firsts-take}
use Rattle.taxonomy.proofs.Sizes.{grouped_more}
use Rattle.taxonomy.proofs.groups.leaders.Goals as goal
use Rattle.taxonomy.proofs.groups.leaders.Goals.{then-not-contains+in_ok-push, else-not-contains}

pub loop-c-preserved : goal.loop-c-preserved
loop-c-preserved c =
    let lists = c.args.classes.now in
    let r = is_listed lists in
    let order = c.args.order.now in
    let i = c.loop-c.c-index in
    let g = get_or order i 0 in
    let found = c.loop-c.found.items in
    let old = c.loop-c.invariant in
    let low : g < length lists = c.requires.within i 0 c.loop-c-test.true in
    let tested : list_any (is_same r g) found ≡ c.contains.result = sym (c.contains.ensures ∙ old.each g low) in
    elim c.if-not-contains.branch [
      | then-not-contains+in_ok-push w ↦ record {
        first = rw (w.found-is, w.in_ok-push.ensures.items) (sym (firsts-take r found order i c.loop-c-test.true (tested ∙ w.if-not-contains.true)) ∙ old.first);
        long = rw w.grouped-is (w.mark_group.ensures.len ∙ old.long);
        each = λ k l. rw (w.grouped-is, w.found-is, w.in_ok-push.ensures.items)
            (grouped_more lists c.requires.superclasses g k (has c.loop-c.grouped k) (has w.mark_group.new.set k) found (old.each k l) (w.mark_group.ensures.members k (omega (arith, old.long, l))));
      }
      | else-not-contains w ↦ record {
        first = rw w.found-is (ap (λ rest. found ++ rest) (sym (firsts-skip r found order i c.loop-c-test.true (tested ∙ w.if-not-contains.false))) ∙ old.first);
        long = rw w.grouped-is old.long;
        each = λ k l. rw (w.grouped-is, w.found-is) (old.each k l);
      }
    ]
