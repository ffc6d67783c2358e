use Rattle.std.proofs.Common.{arith, append_assoc}
use Rattle.certificate_text.proofs.Decimals.{decimal_pair}
use Rattle.certificate_text.proofs.digits.put_short.Goals as goal

pub returns-else-number-lt100-clause-items : goal.returns-else-number-lt100-clause-items
returns-else-number-lt100-clause-items c =
    rw (c.put_pair.ensures.items, c.put_first-else-number-lt100.ensures.items, append_assoc, decimal_pair c.args.number c.if-number-lt100.false (omega arith))
