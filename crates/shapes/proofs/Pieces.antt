-- Texts that are two pieces, one behind the other.
use Rattle.std.proofs.Common.{◌≡◌, ℕ, Bool, true, false, ◌&&◌, List, [], ◌∷◌, ◌++◌, nat_eq, refl, sym, ap, ap₂, ◌∙◌}
use Rattle.std.specs.List.{starts_with}
use Rattle.std.specs.Str.{bytes_eq}
use Rattle.std.specs.Cmp.{unsigned_Decides}
use Rattle.std.proofs.lemmas.List.{append_assoc}

same : (x : ℕ) → nat_eq x x ≡ true
same x = (unsigned_Decides x x).1 refl

-- a text that begins with the first piece of another begins with the other where the rest does
pub begins_behind : (base rest local : List ℕ) → starts_with nat_eq (base ++ local) (base ++ rest) ≡ starts_with nat_eq local rest
begins_behind [] rest local = refl
begins_behind (b ∷ bs) rest local = rw (same b) (begins_behind bs rest local)

-- where a front does not begin with the first piece of a text, the text begins with the front where that piece does
pub begins_before : (base front local : List ℕ) → ((rest : List ℕ) → front ≡ base ++ rest → ⊥) → starts_with nat_eq (base ++ local) front ≡ starts_with nat_eq base front
begins_before [] front local h = absurd (h front refl)
begins_before (b ∷ bs) [] local h = refl
begins_before (b ∷ bs) (f ∷ fs) local h = go (nat_eq f b) refl (λ e. begins_before bs fs local (λ rest k. h rest (ap₂ (λ x xs. x ∷ xs) e k)))
  where
    go : (t : Bool) → nat_eq f b ≡ t → (f ≡ b → starts_with nat_eq (bs ++ local) fs ≡ starts_with nat_eq bs fs) → starts_with nat_eq (b ∷ bs ++ local) (f ∷ fs) ≡ starts_with nat_eq (b ∷ bs) (f ∷ fs)
    go true e more = rw e (more ((unsigned_Decides f b).0 e))
    go false e more = rw e refl

behind_same : (x y z : List ℕ) → bytes_eq (x ++ y) (x ++ z) ≡ bytes_eq y z
behind_same [] y z = refl
behind_same (x ∷ xs) y z = rw (same x) (behind_same xs y z)

nat_eq-sym : (x y : ℕ) → nat_eq x y ≡ nat_eq y x
nat_eq-sym x y = go (nat_eq x y) (nat_eq y x) refl refl
  where
    go : (s t : Bool) → nat_eq x y ≡ s → nat_eq y x ≡ t → s ≡ t
    go true true e f = refl
    go false false e f = refl
    go true false e f = sym (sym f ∙ (unsigned_Decides y x).1 (sym ((unsigned_Decides x y).0 e)))
    go false true e f = sym e ∙ (unsigned_Decides x y).1 (sym ((unsigned_Decides y x).0 f))

pub bytes_eq-sym : (xs ys : List ℕ) → bytes_eq xs ys ≡ bytes_eq ys xs
bytes_eq-sym [] [] = refl
bytes_eq-sym [] (y ∷ ys) = refl
bytes_eq-sym (x ∷ xs) [] = refl
bytes_eq-sym (x ∷ xs) (y ∷ ys) = ap₂ (λ s t. s && t) (nat_eq-sym x y) (bytes_eq-sym xs ys)

-- where the first piece of one text is a prefix of the other's
pub same_behind : (front rest more local : List ℕ) → bytes_eq local (rest ++ more) ≡ bytes_eq ((front ++ rest) ++ more) (front ++ local)
same_behind front rest more local = bytes_eq-sym local (rest ++ more) ∙ sym (ap (λ t. bytes_eq t (front ++ local)) (append_assoc front rest more) ∙ behind_same front (rest ++ more) local)

-- where neither of the first pieces of two texts is a prefix of the other, the texts are not equal
pub other_before : (a b x y : List ℕ) → ((rest : List ℕ) → a ≡ b ++ rest → ⊥) → ((rest : List ℕ) → b ≡ a ++ rest → ⊥) → bytes_eq (a ++ x) (b ++ y) ≡ false
other_before [] b x y h k = absurd (k b refl)
other_before (a ∷ as') [] x y h k = absurd (h (a ∷ as') refl)
other_before (a ∷ as') (b ∷ bs) x y h k =
    go (nat_eq a b) refl (λ e. other_before as' bs x y (λ rest w. h rest (ap₂ (λ z zs. z ∷ zs) e w)) (λ rest w. k rest (ap₂ (λ z zs. z ∷ zs) (sym e) w)))
  where
    go : (t : Bool) → nat_eq a b ≡ t → (a ≡ b → bytes_eq (as' ++ x) (bs ++ y) ≡ false) → bytes_eq (a ∷ as' ++ x) (b ∷ bs ++ y) ≡ false
    go true e more = rw e (more ((unsigned_Decides a b).0 e))
    go false e more = rw e refl
