-- What the walk over the lines of a derivation finds.
use Rattle.std.proofs.Common.{◌≡◌, ℕ, zero, suc, ◌+◌, List, map, slice_get, Some, Option, option_map, sym, ap, ◌∙◌, subst, arith}
use Rattle.std.proofs.lemmas.Option.{slice_get-map}
use Rattle.lemmas.proofs.Mapped.{slice_get_map}
use Rattle.axioms.specs.View.{at_number}

-- what is made of the thing of a number
pub at_there : {X Y Z : Type 0} (f : X → Y) (g : Y → Z) (xs : List X) (m n : ℕ) (x : X) → slice_get xs m ≡ Some x → m + 1 ≡ n → Some (g (f x)) ≡ at_number (map g (map f xs)) n
at_there f g xs m zero x h e = absurd (omega arith)
at_there f g xs m (suc n) x h e =
    let same : m ≡ n = omega arith in
    subst (λ k. Some (g (f x)) ≡ slice_get (map g (map f xs)) k) same (sym (slice_get_map g (map f xs) m (f x) (slice_get_map f xs m x h)))

-- what is made of the thing of a number, if there is one
pub said_there : {X Y : Type 0} (f : X → Y) (xs : List X) (m n : ℕ) (o : Option X) → o ≡ slice_get xs m → m + 1 ≡ n → option_map f o ≡ at_number (map f xs) n
said_there f xs m zero o h e = absurd (omega arith)
said_there f xs m (suc n) o h e =
    let same : m ≡ n = omega arith in
    ap (option_map f) h ∙ sym (slice_get-map f xs m) ∙ ap (slice_get (map f xs)) same
