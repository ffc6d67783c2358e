use Rattle.std.proofs.Common.{◌||◌, ℕ, Bool, get_or, take, sym, ap, ap₂, ◌∙◌}
use Rattle.std.proofs.lemmas.List.Folds.{list_any_more}
use Rattle.std.proofs.Math.Bool.{or_assoc}
use Rattle.number_sets.specs.Members.{has}
use Rattle.std.specs.List.{list_any}
use Rattle.taxonomy.specs.Texts.{is_strictly_above}
use Rattle.taxonomy.specs.Relation.{is_listed}
use Rattle.taxonomy.proofs.Marked.{closed_more, or_known}
use Rattle.taxonomy.proofs.Sizes.{strictly_by_size}
use Rattle.taxonomy.proofs.least.mark_each.Goals as goal
use Rattle.taxonomy.proofs.least.mark_each.Goals.{then-not-contains, else-not-contains}

pub loop-c-preserved : goal.loop-c-preserved
loop-c-preserved c =
    let lists = c.args.classes.now in
    let s = c.requires.superclasses in
    let numbers = c.args.numbers.now in
    let i = c.loop-c.c-index in
    let g = get_or numbers i 0 in
    let old = c.loop-c.invariant in
    let strict : ℕ → ℕ → Bool = is_strictly_above (is_listed lists) in
    let first : ℕ → Bool = has c.args.marks.now.strictly in
    elim c.if-not-contains.branch [
      | then-not-contains w ↦ record {
        room = rw w.marks-is w.mark.ensures.room;
        closed = rw w.marks-is (closed_more lists s g c.loop-c.marks w.mark.new.marks old.closed w.mark.ensures.above w.mark.ensures.strictly);
        strictly = λ k l. rw w.marks-is
            (w.mark.ensures.strictly k l
            ∙ ap₂ (λ a b. a || b) (old.strictly k l) (strictly_by_size lists s g k)
            ∙ or_assoc (first k) (list_any (λ j. strict j k) (take i numbers)) (strict g k)
            ∙ ap (λ b. first k || b) (sym (list_any_more (λ j. strict j k) numbers i 0 c.loop-c-test.true)));
      }
      | else-not-contains w ↦ record {
        room = rw w.marks-is old.room;
        closed = rw w.marks-is old.closed;
        strictly = λ k l. rw w.marks-is
            (or_known (has c.loop-c.marks.strictly k) (first k) (list_any (λ j. strict j k) (take i numbers)) (strict g k) (old.strictly k l)
            (old.closed.strictly g k (sym c.contains.ensures ∙ w.if-not-contains.false))
            ∙ ap (λ b. first k || b) (sym (list_any_more (λ j. strict j k) numbers i 0 c.loop-c-test.true)));
      }
    ]
