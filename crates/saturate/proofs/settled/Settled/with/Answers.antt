use Rattle.std.proofs.Common.{◌+◌, ap, length, sym, subst, ◌∙◌, arith, length-append}
use Rattle.saturate.specs.Flags.{kept}
use Rattle.saturate.specs.Settling.{AreAllOnce}
use Rattle.saturate.proofs.Settling.{all_left, all_settled}
use Rattle.saturate.proofs.settled.Settled.with.Goals as goal

pub invariant_of-result : goal.invariant_of-result
invariant_of-result c =
    let numbers = c.in_ok-numbers.numbers.value.items in
    rw c.in-Ok.ensures (all_settled numbers (c.len.result + c.len-2.result)
    (subst AreAllOnce (sym c.in_ok-numbers.ensures.ok) c.requires.all)
    (omega (arith, c.len.ensures, c.len-2.ensures, c.args.more.ok.0, ap length c.in_ok-numbers.ensures.ok, length-append c.args.self.now c.args.more.items)))

pub returns-clause-ok : goal.returns-clause-ok
returns-clause-ok c =
    let numbers = c.in_ok-numbers.numbers.value.items in
    ap (λ gone. kept gone numbers) c.in-Ok.ensures ∙ all_left numbers (c.len.result + c.len-2.result) ∙ c.in_ok-numbers.ensures.ok
