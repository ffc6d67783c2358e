use Rattle.std.proofs.Common.{get_or}
use Rattle.std.proofs.lemmas.List.{take_more}
use Rattle.saturate.proofs.Settling.{none_more, one_out}
use Rattle.saturate.proofs.settled.take_out.Goals as goal
use Rattle.saturate.proofs.settled.take_out.Goals.{then-is_left+in_ok-push, else-is_left}

pub loop-number-preserved : goal.loop-number-preserved
loop-number-preserved c =
    let numbers = c.args.numbers.now in
    let i = c.loop-number.number-index in
    let number = get_or numbers i 0 in
    rw (take_more numbers i 0 c.loop-number-test.true) (elim c.if-is_left.branch [
      | then-is_left+in_ok-push w ↦
          let left = c.is_left.ensures.yes w.if-is_left.true in
          rw (w.gone-is, w.out-is, w.put.ensures.after, w.in_ok-push.ensures.items) (one_out number c.loop-number.invariant left.0 left.1)
      | else-is_left w ↦ rw (w.gone-is, w.out-is) (none_more number c.loop-number.invariant (c.is_left.ensures.no w.if-is_left.false))
    ])
