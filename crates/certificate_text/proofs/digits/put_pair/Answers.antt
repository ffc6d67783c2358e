use Rattle.std.proofs.Common.{append_assoc}
use Rattle.certificate_text.proofs.Decimals.{PAIRS_at}
use Rattle.certificate_text.proofs.digits.put_pair.Goals as goal

pub returns-clause-items : goal.returns-clause-items
returns-clause-items c =
    let p = PAIRS_at c.args.number c.requires.below in
    rw (c.push_reserved-2.ensures.items, c.push_reserved.ensures.items, append_assoc, p.0, p.1)
