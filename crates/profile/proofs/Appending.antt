-- Lists that grow by first places.
use Rattle.std.proofs.Common.{◌≡◌, ℕ, zero, suc, Bool, true, false, inl, inr, List, [], ◌∷◌, ◌++◌, slice_get, Some, Contains, refl, sym, ap, ap₂, ◌∙◌, subst, arith, if◌then◌else◌, append_assoc}
use Rattle.std.specs.Bool.{Decides}
use Rattle.std.specs.List.{list_any}
use Rattle.std.proofs.lemmas.List.{append-nil}
use Rattle.lemmas.proofs.Members.{Contains-from_slice_get, Contains-cons_cases}
use Rattle.axioms.specs.Growth.{Numbers}
use Rattle.axioms.specs.Numbering.{first_places, first_places_from}
use Rattle.axioms.specs.WellFormedness.{AreDistinct}
use Rattle.profile.specs.Additions.{Appends}
use Rattle.profile.proofs.FirstPlaces.{seen_after, found, grows}

module _ {A : Type 0} (same : A → A → Bool) where
  append_step : (seen : List A) (x : A) (xs ys : List A) →
      ((s : List A) → first_places_from same s (xs ++ ys) ≡ first_places_from same s xs ++ first_places_from same (seen_after same s xs) ys) →
      (b : Bool) →
      (if b then first_places_from same seen (xs ++ ys) else x ∷ first_places_from same (x ∷ seen) (xs ++ ys))
      ≡ (if b then first_places_from same seen xs else x ∷ first_places_from same (x ∷ seen) xs)
      ++ first_places_from same (if b then seen_after same seen xs else seen_after same (x ∷ seen) xs) ys
  append_step seen x xs ys later true = later seen
  append_step seen x xs ys later false = ap (λ zs. x ∷ zs) (later (x ∷ seen))

  -- the first places of a list and more
  pub places_append : (xs ys seen : List A) → first_places_from same seen (xs ++ ys) ≡ first_places_from same seen xs ++ first_places_from same (seen_after same seen xs) ys
  places_append [] ys seen = refl
  places_append (x ∷ xs) ys seen = append_step seen x xs ys (λ s. places_append xs ys s) (list_any (same x) seen)

  -- the first places of these are these, and see the same
  record IsSettled (seen xs : List A) : Type 0 where
    same_places : first_places_from same seen (first_places_from same seen xs) ≡ first_places_from same seen xs
    same_seen : seen_after same seen (first_places_from same seen xs) ≡ seen_after same seen xs

  settle_step : (seen : List A) (x : A) (xs : List A) → ((s : List A) → IsSettled s xs) → (b : Bool) → list_any (same x) seen ≡ b →
      (first_places_from same seen (if b then first_places_from same seen xs else x ∷ first_places_from same (x ∷ seen) xs) ≡ (if b then first_places_from same seen xs else x ∷ first_places_from same (x ∷ seen) xs))
      × (seen_after same seen (if b then first_places_from same seen xs else x ∷ first_places_from same (x ∷ seen) xs) ≡ (if b then seen_after same seen xs else seen_after same (x ∷ seen) xs))
  settle_step seen x xs later true is = ((later seen).same_places, (later seen).same_seen)
  settle_step seen x xs later false is =
      let next = later (x ∷ seen) in
      let tail = first_places_from same (x ∷ seen) xs in (
        ap (λ b. if b then first_places_from same seen tail else x ∷ first_places_from same (x ∷ seen) tail) is ∙ ap (λ zs. x ∷ zs) next.same_places,
        ap (λ b. if b then seen_after same seen tail else seen_after same (x ∷ seen) tail) is ∙ next.same_seen,
      )

  settled : (xs seen : List A) → IsSettled seen xs
  settled [] seen = record { same_places = refl; same_seen = refl }
  settled (x ∷ xs) seen =
      let h = settle_step seen x xs (λ s. settled xs s) (list_any (same x) seen) refl in
      record { same_places = h.0; same_seen = h.1 }

  -- first places of first places and more are those of all
  pub places_join : (xs ys : List A) → first_places same (first_places same xs ++ ys) ≡ first_places same (xs ++ ys)
  places_join xs ys =
      let s = settled xs [] in
      places_append (first_places same xs) ys []
      ∙ ap₂ (λ zs seen. zs ++ first_places_from same seen ys) s.same_places s.same_seen
      ∙ sym (places_append xs ys [])

  -- ---- lists that grow

  pub appends_nothing : (old : List A) → first_places same old ≡ old → Appends same old [] old
  appends_nothing old once = record { places = sym once ∙ ap (first_places same) (sym (append-nil old)); rest = []; keeps = sym (append-nil old) }

  pub appends_join : (xs ys old mid new : List A) → Appends same old xs mid → Appends same mid ys new → Appends same old (xs ++ ys) new
  appends_join xs ys old mid new first second = record {
    places = second.places ∙ ap (λ zs. first_places same (zs ++ ys)) first.places ∙ places_join (old ++ xs) ys ∙ ap (first_places same) (append_assoc old xs ys);
    rest = first.rest ++ second.rest;
    keeps = second.keeps ∙ ap (λ zs. zs ++ second.rest) first.keeps ∙ append_assoc old first.rest second.rest;
  }

module _ {A : Type 0} (same : A → A → Bool) (one : (a b : A) → Decides (same a b) (a ≡ b)) where
  not_seen : (x : A) (seen : List A) → (Contains seen x → ⊥) → (b : Bool) → list_any (same x) seen ≡ b → list_any (same x) seen ≡ false
  not_seen x seen apart true h = absurd (apart (found same one x seen h))
  not_seen x seen apart false h = h

  once_from : (xs seen : List A) → ((n : ℕ) (x : A) → slice_get xs n ≡ Some x → Contains seen x → ⊥) → AreDistinct xs → first_places_from same seen xs ≡ xs
  once_from [] seen apart distinct = refl
  once_from (x ∷ xs) seen apart distinct =
      ap (λ b. if b then first_places_from same seen xs else x ∷ first_places_from same (x ∷ seen) xs) (not_seen x seen (apart zero x refl) (list_any (same x) seen) refl)
      ∙ ap (λ ys. x ∷ ys) (once_from xs (x ∷ seen)
      (λ n y g c. elim (Contains-cons_cases x y seen c) [
        | inl e ↦ let h : zero ≡ suc n = distinct zero (suc n) y (ap Some e) g in omega arith
        | inr older ↦ apart (suc n) y g older
      ])
      (λ m n y g h. let e : suc m ≡ suc n = distinct (suc m) (suc n) y g h in omega arith))

  -- a list with nothing twice is its own first places
  pub once : (xs : List A) → AreDistinct xs → first_places same xs ≡ xs
  once xs distinct = once_from xs [] (λ n x g c. omega (arith, c.1)) distinct

  pub appends_old : (old : List A) (x : A) → AreDistinct old → Contains old x → Appends same old (x ∷ []) old
  appends_old old x distinct there =
      let P : List A → Type 0 = λ xs. Contains xs x in
      let at : Contains (first_places same old) x = subst P (sym (once old distinct)) there in
      record { places = sym ((grows same x one old).0 at ∙ once old distinct); rest = []; keeps = sym (append-nil old) }

  pub appends_new : (old : List A) (x : A) → AreDistinct old → (Contains old x → ⊥) → Appends same old (x ∷ []) (old ++ x ∷ [])
  appends_new old x distinct apart =
      let P : List A → Type 0 = λ xs. Contains xs x in
      let out : Contains (first_places same old) x → ⊥ = λ h. apart (subst P (once old distinct) h) in
      record { places = sym ((grows same x one old).1 out ∙ ap (λ zs. zs ++ x ∷ []) (once old distinct)); rest = x ∷ []; keeps = refl }

  -- a list grows where a member gets a number
  pub appends_number : (old : List A) (x : A) (new : List A) (n : ℕ) → AreDistinct old → Numbers old x new n → Appends same old (x ∷ []) new
  appends_number old x new n distinct (inl (at, is)) = let P : List A → Type 0 = λ xs. Appends same old (x ∷ []) xs in subst P (sym is) (appends_old old x distinct (Contains-from_slice_get old n x at))
  appends_number old x new n distinct (inr (apart, at, is)) = let P : List A → Type 0 = λ xs. Appends same old (x ∷ []) xs in subst P (sym is) (appends_new old x distinct apart)
