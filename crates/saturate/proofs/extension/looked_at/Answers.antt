use Rattle.std.proofs.Common.{◌<◌, ℕ, List, arith, get_or, length}
use Rattle.std.proofs.lemmas.List.Elements.{Contains-get_or}
use Rattle.saturate.proofs.Flagging.{flagged_within}
use Rattle.saturate.proofs.extension.looked_at.Goals as goal

pub get-requires : goal.get-requires
get-requires c =
    let numbers : List ℕ = c.numbers-number-items.result.now in
    let n : ℕ = get_or numbers c.loop-number.number-index 0 in
    let low : n < length c.args.flags.now = flagged_within c.args.flags.now n ((c.numbers-number-items.ensures n).1 (Contains-get_or numbers c.loop-number.number-index 0 c.loop-number-test.true)) in
    omega (arith, low, c.requires)
