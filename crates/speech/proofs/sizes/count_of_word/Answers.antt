use Rattle.std.proofs.Common.{◌≡◌, ◌∙◌, arith, sym}
use Rattle.std.proofs.lemmas.Fmt.{decimal_injective}
use Rattle.speech.proofs.sizes.count_of_word.Goals as goal
use Rattle.speech.proofs.sizes.count_of_word.Goals.{else-size-gt0-via-then-size-gt0+else-size, else-size-gt0-via-else-size-gt0}

pub returns-else-size-gt0-clause-none : goal.returns-else-size-gt0-clause-none
returns-else-size-gt0-clause-none c = λ n some small e.
    let same : c.in_ok-size.size ≡ n = decimal_injective c.in_ok-size.size n (omega arith) (omega (arith, small)) (c.in_ok-size.ensures.some ∙ sym e) in
    elim c.else-size-gt0.branch [
      | else-size-gt0-via-then-size-gt0+else-size w ↦ absurd (omega (arith, w.if-size.false, same, small))
      | else-size-gt0-via-else-size-gt0 w ↦ absurd (omega (arith, w.if-size-gt0.false, same, some))
    ]
