use Rattle.std.proofs.Common.{ℕ, List, ◌+◌, ◌-◌, length, drop, sym, subst, take, None}
use Rattle.std.proofs.lemmas.List.{take_rest}
use Rattle.memchr.specs.Find.{IsFirstByte, is_byte}
use Rattle.short_names.specs.Found.{IsCut}
use Rattle.short_names.proofs.FirstName.{cut_at, found_around, found_nowhere, stays_plain, stays_unclosed}
use Rattle.short_names.proofs.cutting.first_name.Goals as goal

pub returns-in_err-opening-clause-none : goal.returns-in_err-opening-clause-none
returns-in_err-opening-clause-none c = rw c.from_residual.ensures (stays_plain c.args.text.now (found_nowhere 60 c.args.text.now c.in_err-opening.ensures))

pub returns-in_err-closing-clause-none : goal.returns-in_err-closing-clause-none
returns-in_err-closing-clause-none c =
    let text = c.args.text.now in
    let k = c.in_ok-opening.opening in
    rw c.from_residual-in_err-closing.ensures (stays_unclosed text k (found_around 60 text k c.in_ok-opening.ensures)
    (found_nowhere 62 (drop (k + 1) text) (subst (λ (xs : List ℕ). IsFirstByte (is_byte 62) xs None) (take_rest text (k + 1)) c.in_err-closing.ensures)))

pub returns-clause-some : goal.returns-clause-some
returns-clause-some c =
    let text = c.args.text.now in
    let k = c.in_ok-opening.opening in
    let l = c.in_ok-closing.closing in
    let rest : List ℕ = take (length text - (k + 1)) (drop (k + 1) text) in
    subst (λ (xs : List ℕ). IsCut text (take k text) (take l rest) xs) (sym (take_rest rest (l + 1)))
    (cut_at text rest k l (found_around 60 text k c.in_ok-opening.ensures) (take_rest text (k + 1)) (found_around 62 rest l c.in_ok-closing.ensures))
