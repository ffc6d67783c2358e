-- The last of the rows.
use Rattle.std.proofs.Common.{◌≡◌, ℕ, suc, ◌-◌, ◌≤◌, List, [], ◌∷◌, length, map, get_or, Some, refl, ap, ◌∙◌, arith, sym}
use Rattle.std.proofs.lemmas.Option.{same_Some}
use Rattle.certificate.specs.Held.{held_class, held_pairs}
use Rattle.certificate.specs.Tests.{key, pair_key}
use Rattle.certificate.specs.TextLines.{last_of}

last_item : {A : Type 0} (xs : List A) (d : A) → 1 ≤ length xs → last_of xs ≡ Some (get_or xs (length xs - 1) d)
last_item [] d some = absurd (omega arith)
last_item (x ∷ []) d some = refl
last_item (x ∷ y ∷ ys) d some =
    let before : length (x ∷ y ∷ ys) - 1 ≡ suc (length (y ∷ ys) - 1) = omega arith in
    last_item (y ∷ ys) d (omega arith) ∙ ap (λ i. Some (get_or (x ∷ y ∷ ys) i d)) (sym before)

last_map : {A B : Type 0} (view : A → B) (xs : List A) (x : A) → last_of xs ≡ Some x → last_of (map view xs) ≡ Some (view x)
last_map view [] x e = cc
last_map view (y ∷ []) x e = ap (λ z. Some (view z)) (same_Some y x e)
last_map view (y ∷ z ∷ zs) x e = last_map view (z ∷ zs) x e

-- what is seen of it
pub last_seen : {A B : Type 0} (view : A → B) (xs : List A) (x d : A) → 1 ≤ length xs → x ≡ get_or xs (length xs - 1) d → last_of (map view xs) ≡ Some (view x)
last_seen view xs x d some e = last_map view xs x (last_item xs d some ∙ ap Some (sym e))

-- what a row holds of its elements does not change its place
pub last_held_class : (rows : List (ℕ × List ℕ)) → key (last_of (map held_class rows)) ≡ key (last_of rows)
last_held_class [] = refl
last_held_class (row ∷ []) = refl
last_held_class (row ∷ next ∷ rows) = last_held_class (next ∷ rows)

pub last_held_pairs : (rows : List (ℕ × ℕ × List ℕ)) → pair_key (last_of (map held_pairs rows)) ≡ pair_key (last_of rows)
last_held_pairs [] = refl
last_held_pairs (row ∷ []) = refl
last_held_pairs (row ∷ next ∷ rows) = last_held_pairs (next ∷ rows)
