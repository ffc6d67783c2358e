use Rattle.std.proofs.Common.{◌≡◌, ℕ, ◌<◌, length, get_or, not, sym, ap, ◌∙◌, arith}
use Rattle.std.proofs.lemmas.List.{get_or_default}
use Rattle.std.proofs.lemmas.List.Filters.{FiltersInPlace-more_here, FiltersInPlace-more_no, FiltersInPlace-more_set}
use Rattle.saturate.proofs.Parting.{asked_more, asked_still, one_asked}
use Rattle.saturate.proofs.queue.gather_kept.Goals.{After-has, then-has, else-has, then-kept-place, else-kept-place}
use Rattle.saturate.proofs.queue.gather_kept.Goals as goal

abbrev number : After-has → ℕ
number c = get_or c.loop-place.numbers c.loop-place.place 0

low : (c : After-has) → c.loop-place.place < length c.loop-place.numbers
low c = omega (arith, c.loop-place-test.true, c.requires.served, c.loop-place.invariant.front.long)

here : (c : After-has) → number c ≡ get_or c.loop-place.numbers c.loop-place.place (number c)
here c = get_or_default c.loop-place.numbers c.loop-place.place 0 (number c) (low c)

pub push_reserved-requires : goal.push_reserved-requires
push_reserved-requires c =
    let d = (goal.at.push_reserved-requires c).After-has in
    let so = c.loop-place.invariant in
    omega (arith, one_asked c.args.flags.now c.args.numbers.now so.front (low d) (here d) c.loop-place.again.items c.args.served so.again (sym c.has.ensures ∙ c.if-has.true) c.loop-place-test.true, c.loop-place.again.ok.0, so.room)

pub loop-place-preserved : goal.loop-place-preserved
loop-place-preserved c =
    let d = (goal.at.loop-place-preserved c).After-has in
    let so = c.loop-place.invariant in
    elim c.if-has.branch [
      | then-has w ↦ rw (w.numbers-is, w.again-is, w.kept-is) record {
        front = FiltersInPlace-more_no so.front (low d) (ap not (sym c.has.ensures ∙ w.if-has.true)) (here d);
        again = w.push_reserved.ensures.items ∙ asked_more c.args.flags.now c.args.numbers.now so.front (low d) (here d) c.loop-place.again.items so.again (sym c.has.ensures ∙ w.if-has.true);
        room = omega (arith, so.room, w.push_reserved.ensures.capacity);
      }
      | else-has w ↦ rw (w.again-is, w.kept-is) record {
        front = elim w.if-kept-place.branch [
          | then-kept-place v ↦ rw (w.numbers-is, v.numbers-is) (FiltersInPlace-more_set so.front (low d) (ap not (sym c.has.ensures ∙ w.if-has.false)) (here d))
          | else-kept-place v ↦ rw (w.numbers-is, v.numbers-is) (FiltersInPlace-more_here so.front (low d) (ap not (sym c.has.ensures ∙ w.if-has.false)) (here d) (omega (arith, v.if-kept-place.false, so.front.behind)))
        ];
        again = asked_still c.args.flags.now c.args.numbers.now so.front (low d) (here d) c.loop-place.again.items so.again (sym c.has.ensures ∙ w.if-has.false);
        room = so.room;
      }
    ]
