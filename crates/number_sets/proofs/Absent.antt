-- What is not there is empty.
use Rattle.std.proofs.Common.{◌≡◌, ℕ, List, [], get_or, slice_get, Option, Some, None, unwrap_or, refl, ap, ◌∙◌}
use Rattle.std.specs.Prelude.{option_and_then}
use Rattle.std.proofs.lemmas.Option.{unwrap_or-slice_get}

pub none_at : {A : Type 0} (xs : List A) (k : ℕ) (d : A) → None ≡ slice_get xs k → d ≡ get_or xs k d
none_at {A} xs k d e = ap (λ (o : Option A). unwrap_or o d) e ∙ unwrap_or-slice_get xs k d

looked : (o : Option (List (List ℕ))) (x : ℕ) → unwrap_or (option_and_then (λ sources. slice_get sources x) o) [] ≡ get_or (unwrap_or o []) x []
looked None x = refl
looked (Some sources) x = unwrap_or-slice_get sources x []

pub none_there : (all : List (List (List ℕ))) (r x : ℕ) → None ≡ option_and_then (λ sources. slice_get sources x) (slice_get all r) → [] ≡ get_or (get_or all r []) x []
none_there all r x e =
    ap (λ (o : Option (List ℕ)). unwrap_or o []) e ∙ looked (slice_get all r) x
    ∙ ap (λ (sources : List (List ℕ)). get_or sources x []) (unwrap_or-slice_get all r [])
