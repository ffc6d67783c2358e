-- Steps over lists and results.
use Rattle.std.proofs.Common.{◌≡◌, ℕ, ◌+◌, ◌<◌, ◌≤◌, List, length, get_or, slice_get, take, All, Bool, IsTrue, ◌↔◌, Result, Ok, Err, IfOk, Option, Some, None, IfSome, refl, subst, arith}
use Rattle.std.proofs.lemmas.List.{take-take, get_or-take, length-take-le}
use Rattle.std.proofs.lemmas.List.Elements.{All-take}
use Rattle.std.proofs.lemmas.Option.{slice_get-get_or}

-- of one element more
pub all_step : {X : Type 0} (P : X → Type 0) (xs : List X) (i : ℕ) (d : X) → i < length xs → All P (take (i + 1) xs) → All P (take i xs) × P (get_or xs i d)
all_step {X} P xs i d l all =
    let le : i ≤ i + 1 = omega arith in
    let inside : i < length (take (i + 1) xs) = omega (arith, length-take-le (i + 1) xs (omega arith)) in (
      subst (λ (ys : List X). All P ys) (take-take i (i + 1) xs le) (All-take P i (take (i + 1) xs) all),
      subst P (get_or-take (i + 1) xs i d (omega arith)) (all i d inside),
    )

-- what stands at a place of a list stands there in one that is the same
pub slice_get_same : {X : Type 0} (xs ys : List X) (k : ℕ) (d : X) → xs ≡ ys → k < length xs → slice_get ys k ≡ Some (get_or xs k d)
slice_get_same {X} xs ys k d e l = subst (λ (zs : List X). slice_get zs k ≡ Some (get_or xs k d)) e (slice_get-get_or xs k d l)

pub IfOk-both : {T E : Type 0} (P Q : T → Type 0) (r : Result T E) → IfOk r P → IfOk r Q → IfOk r (λ x. P x × Q x)
IfOk-both P Q (Ok x) p q = (p, q)
IfOk-both P Q (Err e) p q = tt

pub if_some : {A : Type 0} (P : A → Type 0) (o : Option A) → ((a : A) → o ≡ Some a → P a) → IfSome o P
if_some P None h = tt
if_some P (Some a) h = h a refl

-- what decides one of two facts that are the same decides the other
pub said_by : {P Q E : Type 0} → P ↔ Q → (r : Result Bool E) → IfOk r (λ b. IsTrue b ↔ P) → IfOk r (λ b. IsTrue b ↔ Q)
said_by e (Ok b) h = (λ t. e.0 (h.0 t), λ q. h.1 (e.1 q))
said_by e (Err x) h = tt
