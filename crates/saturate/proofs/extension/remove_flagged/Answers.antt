use Rattle.std.proofs.Common.{◌<◌, ℕ, List, subst, take, arith, get_or, length}
use Rattle.std.proofs.lemmas.List.{take_all, take_more}
use Rattle.std.proofs.lemmas.List.Elements.{Contains-get_or}
use Rattle.saturate.proofs.Flagging.{flagged_within}
use Rattle.saturate.proofs.Removing.{AreTakenOut, all_taken_out, none_taken_out, one_taken_out}
use Rattle.saturate.proofs.extension.remove_flagged.Goals as goal

pub get-requires : goal.get-requires
get-requires c =
    let numbers : List ℕ = c.numbers-number-items.result.now in
    let n : ℕ = get_or numbers c.loop-number.number-index 0 in
    let low : n < length c.args.flags.now = flagged_within c.args.flags.now n ((c.numbers-number-items.ensures n).1 (Contains-get_or numbers c.loop-number.number-index 0 c.loop-number-test.true)) in
    omega (arith, low, c.requires)

pub loop-number-init : goal.loop-number-init
loop-number-init c = none_taken_out c.args.facts.now c.args.index.now

pub loop-number-preserved : goal.loop-number-preserved
loop-number-preserved c =
    let numbers : List ℕ = c.numbers-number-items.result.now in
    let i = c.loop-number.number-index in
    rw (take_more numbers i 0 c.loop-number-test.true) (one_taken_out (take i numbers) (get_or numbers i 0) c.loop-number.invariant c.get.ensures c.remove.ensures)

pub returns : goal.returns
returns c =
    let numbers : List ℕ = c.numbers-number-items.result.now in
    all_taken_out c.args.flags.now numbers c.numbers-number-items.ensures
    (subst (λ (ns : List ℕ). AreTakenOut c.args.facts.now ns c.args.index.now c.loop-number.index) (take_all c.loop-number.number-index numbers (omega (arith, c.loop-number-test.false))) c.loop-number.invariant)
