-- The members of a set below a number, one number further.
use Rattle.std.proofs.Common.{◌≡◌, ℕ, zero, suc, ◌+◌, ◌-◌, ◌≤◌, Bool, true, false, cond, List, [], ◌∷◌, ◌++◌, length, sym, ap, ◌∙◌, arith}
use Rattle.std.specs.List.{filter, range_with_len}
use Rattle.std.proofs.lemmas.List.{append-nil, get_or_past}
use Rattle.std.proofs.lemmas.List.Elements.{filter-append}
use Rattle.lemmas.proofs.Ranges.{range_push}
use Rattle.number_sets.specs.Members.{has}
use Rattle.interpretation_spec.specs.Members.{members_below}
use Rattle.interpretation_spec.proofs.SetWords.{PassesOver}

members_more : (set : List Bool) (n : ℕ) → members_below set (n + 1) ≡ members_below set n ++ cond (has set n) (n ∷ []) []
members_more set n = ap (filter (has set)) (range_push n) ∙ filter-append (has set) (range_with_len 0 n) (n ∷ [])

-- a member more
pub one_more : (set : List Bool) (n : ℕ) → has set n ≡ true → members_below set (n + 1) ≡ members_below set n ++ n ∷ []
one_more set n member = members_more set n ∙ ap (λ (b : Bool). members_below set n ++ cond b (n ∷ []) []) member

-- no member more
pub none_more : (set : List Bool) (n : ℕ) → has set n ≡ false → members_below set (n + 1) ≡ members_below set n
none_more set n none = members_more set n ∙ ap (λ (b : Bool). members_below set n ++ cond b (n ∷ []) []) none ∙ append-nil (members_below set n)

pub passes : (set : List Bool) (found : List ℕ) → PassesOver set (λ n. found ≡ members_below set n)
passes set found n none is = is ∙ sym (none_more set n none)

-- from the length on there are no more
past : (set : List Bool) (more : ℕ) → members_below set (length set + more) ≡ members_below set (length set)
past set zero = ap (members_below set) (omega arith)
past set (suc more) =
    ap (members_below set) (omega arith) ∙ none_more set (length set + more) (get_or_past set (length set + more) false (omega arith)) ∙ past set more

pub all_below : (set : List Bool) (n : ℕ) → length set ≤ n → members_below set n ≡ members_below set (length set)
all_below set n low = ap (members_below set) (omega arith) ∙ past set (n - length set)
