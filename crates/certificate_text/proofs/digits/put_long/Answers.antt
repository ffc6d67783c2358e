use Rattle.std.proofs.Common.{◌/◌, ◌%◌, ◌++◌, arith, append_assoc}
use Rattle.std.specs.Fmt.{decimal}
use Rattle.certificate_text.proofs.Decimals.{decimal_four, pair}
use Rattle.certificate_text.proofs.digits.put_long.Goals as goal

pub returns-else-number-lt10000 : goal.returns-else-number-lt10000
returns-else-number-lt10000 c =
    let n = c.args.number in
    let before = c.args.out.now.items in
    let first = decimal (n / 10000) in
    let two = pair (n % 10000 / 100) in
    let last = pair (n % 10000 % 100) in
    record {
      items = rw (c.put_pair-else-number-lt10000.ensures.items, c.put_pair.ensures.items, c.put_short-else-number-lt10000.ensures.items, append_assoc (before ++ first) two last, append_assoc before first (two ++ last), decimal_four n c.if-number-lt10000.false (omega arith));
    }
