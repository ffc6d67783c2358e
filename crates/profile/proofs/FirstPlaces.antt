-- First places: a list with one more member at its end.
use Rattle.std.proofs.Common.{◌≡◌, zero, suc, Bool, true, false, ◌||◌, ◌⊎◌, inl, inr, List, [], ◌∷◌, ◌++◌, All, Contains, refl, sym, ap, ap₂, ◌∙◌, true≢false, subst, arith, if◌then◌else◌}
use Rattle.std.proofs.lemmas.Slice.Eq.{bytes_eq-Decides}
use Rattle.std.proofs.lemmas.List.{append-nil}
use Rattle.std.proofs.lemmas.List.Elements.{All-cons, All-head, All-tail}
use Rattle.std.specs.Bool.{Decides}
use Rattle.std.specs.List.{list_any}
use Rattle.std.proofs.lemmas.Bool.Decides.{Decides-like, Decides-and}
use Rattle.std.proofs.lemmas.Bool.{or_left, or_right}
use Rattle.lemmas.proofs.Members.{Contains-later, Contains-cons_cases}
use Rattle.axioms.specs.Expression.{ClassExpression, Operands, Named, Intersection, SomeValues, Pair, Before}
use Rattle.axioms.specs.Numbering.{first_places, first_places_from, same_expression, same_operands}

differ : {A : Type 0} {a b : A} → (a ≡ b → ⊥) → Decides false (a ≡ b)
differ apart = (λ h. absurd (true≢false (sym h)), λ h. absurd (apart h))

-- the test says whether two expressions are one
mutual
  pub one_expression : (a b : ClassExpression) → Decides (same_expression a b) (a ≡ b)
  one_expression (Named c) (Named d) = Decides-like _ (λ e. ap Named e) (λ e. cc) (bytes_eq-Decides c d)
  one_expression (Named c) (Intersection ds) = differ (λ h. cc)
  one_expression (Named c) (SomeValues s d) = differ (λ h. cc)
  one_expression (Intersection cs) (Named d) = differ (λ h. cc)
  one_expression (Intersection cs) (Intersection ds) = Decides-like _ (λ e. ap Intersection e) (λ e. cc) (same_list cs ds)
  one_expression (Intersection cs) (SomeValues s d) = differ (λ h. cc)
  one_expression (SomeValues r c) (Named d) = differ (λ h. cc)
  one_expression (SomeValues r c) (Intersection ds) = differ (λ h. cc)
  one_expression (SomeValues r c) (SomeValues s d) = Decides-like _ (λ e. ap₂ SomeValues e.0 e.1) (λ e. (cc, cc)) (Decides-and _ _ (bytes_eq-Decides r s) (one_expression c d))

  same_list : (cs ds : Operands) → Decides (same_operands cs ds) (cs ≡ ds)
  same_list (Pair c d) (Pair e f) = Decides-like _ (λ e. ap₂ Pair e.0 e.1) (λ e. (cc, cc)) (Decides-and _ _ (one_expression c e) (one_expression d f))
  same_list (Pair c d) (Before e es) = differ (λ h. cc)
  same_list (Before c cs) (Pair e f) = differ (λ h. cc)
  same_list (Before c cs) (Before e es) = Decides-like _ (λ e. ap₂ Before e.0 e.1) (λ e. (cc, cc)) (Decides-and _ _ (one_expression c e) (same_list cs es))

module _ {A : Type 0} (same : A → A → Bool) (one : (a b : A) → Decides (same a b) (a ≡ b)) (y : A) where
  there_or_later : (x : A) (xs : List A) → (list_any (same y) xs ≡ true → Contains xs y) → (b : Bool) → same y x ≡ b → b || list_any (same y) xs ≡ true → Contains (x ∷ xs) y
  there_or_later x xs later true e h = (0, omega arith, sym ((one y x).0 e))
  there_or_later x xs later false e h = let rest = later h in (suc rest.0, omega arith, rest.2)

  pub found : (xs : List A) → list_any (same y) xs ≡ true → Contains xs y
  found [] h = absurd (true≢false (sym h))
  found (x ∷ xs) h = there_or_later x xs (found xs) (same y x) refl h

  pub missing : (xs : List A) → Contains xs y → list_any (same y) xs ≡ true
  missing [] h = absurd (omega (arith, h.1))
  missing (x ∷ xs) (zero, lt, e) = or_left (same y x) _ ((one y x).1 (sym e))
  missing (x ∷ xs) (suc i, lt, e) = or_right (same y x) _ (missing xs (i, omega arith, e))

-- what was seen once these are taken, the newest first
abbrev pub seen_after : {A : Type 0} → (A → A → Bool) → List A → List A → List A
seen_after same seen [] = seen
seen_after same seen (x ∷ xs) = if list_any (same x) seen then seen_after same seen xs else seen_after same (x ∷ seen) xs

-- what was seen is what was seen before, and the first places
pub record AreSeen {A : Type 0} (y : A) (after seen places : List A) : Type 0 where
  pub only : Contains after y → Contains seen y ⊎ Contains places y
  pub before : Contains seen y → Contains after y
  pub placed : Contains places y → Contains after y

module _ {A : Type 0} (same : A → A → Bool) (y : A) where
  -- after a member that was seen, or not
  more_step : (seen : List A) (x : A) (xs : List A) →
      ((s : List A) → first_places_from same s (xs ++ y ∷ []) ≡ first_places_from same s xs ++ first_places_from same (seen_after same s xs) (y ∷ [])) →
      (b : Bool) →
      (if b then first_places_from same seen (xs ++ y ∷ []) else x ∷ first_places_from same (x ∷ seen) (xs ++ y ∷ []))
      ≡ (if b then first_places_from same seen xs else x ∷ first_places_from same (x ∷ seen) xs)
      ++ first_places_from same (if b then seen_after same seen xs else seen_after same (x ∷ seen) xs) (y ∷ [])
  more_step seen x xs later true = later seen
  more_step seen x xs later false = ap (λ zs. x ∷ zs) (later (x ∷ seen))

  one_more : (xs seen : List A) → first_places_from same seen (xs ++ y ∷ []) ≡ first_places_from same seen xs ++ first_places_from same (seen_after same seen xs) (y ∷ [])
  one_more [] seen = refl
  one_more (x ∷ xs) seen = more_step seen x xs (λ s. one_more xs s) (list_any (same x) seen)

  seen_step : (seen : List A) (x : A) (xs : List A) →
      ((s : List A) → AreSeen y (seen_after same s xs) s (first_places_from same s xs)) → (b : Bool) → (b ≡ true → x ≡ y → Contains seen y) →
      AreSeen y (if b then seen_after same seen xs else seen_after same (x ∷ seen) xs) seen (if b then first_places_from same seen xs else x ∷ first_places_from same (x ∷ seen) xs)
  seen_step seen x xs later true known = later seen
  seen_step seen x xs later false known = record {
    only = λ h. elim ((later (x ∷ seen)).only h) [
      | inl old ↦ elim (Contains-cons_cases x y seen old) [ inl e ↦ inr (0, omega arith, e) | inr older ↦ inl older ]
      | inr new ↦ inr (Contains-later x y (first_places_from same (x ∷ seen) xs) new)
    ];
    before = λ h. (later (x ∷ seen)).before (Contains-later x y seen h);
    placed = λ h. elim (Contains-cons_cases x y (first_places_from same (x ∷ seen) xs) h) [
      | inl e ↦ (later (x ∷ seen)).before (0, omega arith, e)
      | inr new ↦ (later (x ∷ seen)).placed new
    ];
  }

  seen_places : (one : (a b : A) → Decides (same a b) (a ≡ b)) (xs seen : List A) → AreSeen y (seen_after same seen xs) seen (first_places_from same seen xs)
  seen_places one [] seen = record { only = λ h. inl h; before = λ h. h; placed = λ h. absurd (omega (arith, h.1)) }
  seen_places one (x ∷ xs) seen = seen_step seen x xs (λ s. seen_places one xs s) (list_any (same x) seen) (λ h e. let P : A → Type 0 = Contains seen in subst P e (found same one x seen h))

  last_place : (one : (a b : A) → Decides (same a b) (a ≡ b)) (seen : List A) → (Contains seen y → first_places_from same seen (y ∷ []) ≡ []) × (¬ Contains seen y → first_places_from same seen (y ∷ []) ≡ y ∷ [])
  last_place one seen = (
    λ h. ap (λ b. if b then [] else y ∷ []) (missing same one y seen h),
    λ none. ap (λ b. if b then [] else y ∷ []) (not_found one seen none (list_any (same y) seen) refl),
  )
    where
      not_found : (one : (a b : A) → Decides (same a b) (a ≡ b)) (seen : List A) → ¬ Contains seen y → (b : Bool) → list_any (same y) seen ≡ b → list_any (same y) seen ≡ false
      not_found one seen none true h = absurd (none (found same one y seen h))
      not_found one seen none false h = h

  pub grows : (one : (a b : A) → Decides (same a b) (a ≡ b)) (xs : List A) →
      (Contains (first_places same xs) y → first_places same (xs ++ y ∷ []) ≡ first_places same xs)
      × (¬ Contains (first_places same xs) y → first_places same (xs ++ y ∷ []) ≡ first_places same xs ++ y ∷ [])
  grows one xs =
      let seen = seen_places one xs [] in
      let last = last_place one (seen_after same [] xs) in (
        λ h. one_more xs [] ∙ ap (λ zs. first_places same xs ++ zs) (last.0 (seen.placed h)) ∙ append-nil (first_places same xs),
        λ none. one_more xs [] ∙ ap (λ zs. first_places same xs ++ zs) (last.1 (λ h. elim (seen.only h) [ inl old ↦ absurd (omega (arith, old.1)) | inr new ↦ none new ])),
      )

-- what holds of each holds of the first places
pub all_first : {A : Type 0} (same : A → A → Bool) (P : A → Type 0) (xs seen : List A) → All P xs → All P (first_places_from same seen xs)
all_first same P [] seen h = h
all_first {A} same P (x ∷ xs) seen h = go (list_any (same x) seen) (λ s. all_first same P xs s (All-tail P x xs h))
  where
    go : (b : Bool) → ((s : List A) → All P (first_places_from same s xs)) → All P (if b then first_places_from same seen xs else x ∷ first_places_from same (x ∷ seen) xs)
    go true more = more seen
    go false more = All-cons P x (first_places_from same (x ∷ seen) xs) (All-head P x xs h) (more (x ∷ seen))
