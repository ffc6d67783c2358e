-- The numbers of rules.
use Rattle.std.proofs.Common.{◌≡◌, ℕ, zero, suc, ◌-◌, ◌<◌, ◌≤◌, get_or, slice_get, Some, ap, sym, ◌∙◌, arith}
use Rattle.std.proofs.lemmas.List.{get_or_default}
use Rattle.std.proofs.lemmas.Option.{slice_get-get_or}
use Rattle.certificate.specs.Certificate.{Rule}
use Rattle.certificate.specs.LineReading.{all_rules, numbered_rule}

from_one : (n : ℕ) → 1 ≤ n → slice_get all_rules (n - 1) ≡ numbered_rule n
unfolding numbered_rule
from_one zero l = absurd (omega arith)
from_one (suc n) l =
    let here : suc n - 1 ≡ n = omega arith in
    ap (slice_get all_rules) here

-- the rule of a number stands at its place
pub numbered_at : (n : ℕ) (d : Rule) → 1 ≤ n → n ≤ 20 → Some (get_or all_rules (n - 1) d) ≡ numbered_rule n
numbered_at n d l h =
    let rule = get_or all_rules (n - 1) d in
    let low : n - 1 < 20 = omega arith in
    sym (slice_get-get_or all_rules (n - 1) rule low ∙ ap Some (get_or_default all_rules (n - 1) rule d low)) ∙ from_one n l
