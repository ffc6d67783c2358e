use Rattle.std.proofs.Common.{◌≡◌, List, Bool, get_or, take, length, sym, ap, ◌∙◌, inl, inr, true, true≢false, arith}
use Rattle.std.proofs.lemmas.Bool.{or_cases, or_left, or_right}
use Rattle.std.proofs.lemmas.List.{length-set}
use Rattle.number_sets.specs.Members.{has}
use Rattle.number_sets.proofs.Members.{has_within, has_set_cases}
use Rattle.listed_model.specs.Members.{holds}
use Rattle.listed_model.proofs.Covering.{holds_of_taken}
use Rattle.listed_model.proofs.wide.put_all.Goals as goal

pub returns-then-not-put-clause-within : goal.returns-then-not-put-clause-within
returns-then-not-put-clause-within c = λ y h.
    let set = c.loop-number.set in
    let numbers = c.args.numbers.now in
    let at = c.loop-number.number-index in
    let next = get_or numbers at 0 in
    let long = c.put.ensures.in_range in
    let here : has set y ≡ true = elim (has_set_cases set next y (ap (λ (row : List Bool). has row y) (sym c.put.ensures.after) ∙ h)) [
      | inl e ↦
          (let b = has_within c.put.new.self y h in
          let same : length c.put.new.self ≡ length set = ap length c.put.ensures.after ∙ length-set set next true in
          absurd (true≢false (sym (long.1 (omega arith)) ∙ c.if-not-put.true)))
      | inr m ↦ m
    ] in
    elim (or_cases (has c.args.set.now y) (holds (take at numbers) y) (sym (c.loop-number.invariant.members y) ∙ here)) [
      | inl m ↦ or_left (has c.args.set.now y) (holds numbers y) m
      | inr m ↦ or_right (has c.args.set.now y) (holds numbers y) (holds_of_taken numbers at y m)
    ]
