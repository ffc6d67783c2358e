-- Lists that are counted from 1.
use Rattle.std.proofs.Common.{◌≡◌, ℕ, zero, suc, ◌-◌, ◌<◌, ◌≤◌, List, length, map, Some, get_or, sym, ap, ◌∙◌, arith}
use Rattle.std.proofs.lemmas.Option.{slice_get-map, slice_get-get_or}
use Rattle.std.specs.Option.{option_map}
use Rattle.axioms.specs.View.{at_number}

pub at_number-inside : {A B : Type 0} (view : A → B) (xs : List A) (n : ℕ) (x : A) → 0 < n → n ≤ length xs → x ≡ get_or xs (n - 1) x → at_number (map view xs) n ≡ Some (view x)
at_number-inside view xs zero x some within is = absurd (omega arith)
at_number-inside view xs (suc n) x some within is =
    let place : suc n - 1 ≡ n = omega arith in
    let inside : n < length xs = omega arith in
    slice_get-map view xs n ∙ ap (option_map view) (slice_get-get_or xs n x inside ∙ ap Some (sym (is ∙ ap (λ k. get_or xs k x) place)))
