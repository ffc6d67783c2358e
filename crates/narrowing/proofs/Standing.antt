-- What stands in the lines of a listing.
use Rattle.std.proofs.Common.{◌≡◌, ℕ, List, [], ◌∷◌, ◌++◌, map, Contains, sym, ap, ◌∙◌, subst, inl, inr}
use Rattle.std.specs.List.{flat_map}
use Rattle.std.proofs.lemmas.List.Elements.{Contains-append_left, Contains-append_right, Contains-append_cases}
use Rattle.lemmas.proofs.Mapped.{Contains-map, slice_get_map_from}
use Rattle.lemmas.proofs.Members.{Contains-none, Contains-first, Contains-later, Contains-cons_cases, Contains-from_slice_get, slice_get-from_Contains}
use Rattle.certificate.specs.View.{class_row_of, pair_row_of, claim_of, listed_of, targets_in}
use Rattle.certificate.specs.declared.listed.ClassRow.{ClassRow}
use Rattle.certificate.specs.declared.listed.PairRow.{PairRow}
use Rattle.certificate.specs.declared.listed.Claim.{Claim}
use Rattle.certificate.specs.declared.listed.Listed.{Listed}
use Rattle.narrowing.specs.Gathered.{class_elements, pair_elements, claim_elements, elements_of_lines}
use Rattle.narrowing.specs.Narrowed.{StandsIn, in_class, as_source, as_target, of_individual, of_claim}

-- ---- members of lists of lists

pub Contains-flat_map : {X A : Type 0} (f : X → List A) (xs : List X) (x : X) (y : A) → Contains xs x → Contains (f x) y → Contains (flat_map f xs) y
Contains-flat_map f [] x y c d = absurd (Contains-none x c)
Contains-flat_map {X} {A} f (z ∷ zs) x y c d =
    elim (Contains-cons_cases z x zs c) [
      | inl e ↦ Contains-append_left (f z) (flat_map f zs) y (subst (λ (w : X). Contains (f w) y) (sym e) d)
      | inr h ↦ Contains-append_right (f z) (flat_map f zs) y (Contains-flat_map f zs x y h d)
    ]

Contains-from_flat_map : {X A : Type 0} (f : X → List A) (xs : List X) (y : A) → Contains (flat_map f xs) y → (x : X) × Contains xs x × Contains (f x) y
Contains-from_flat_map f [] y c = absurd (Contains-none y c)
Contains-from_flat_map f (z ∷ zs) y c =
    elim (Contains-append_cases (f z) (flat_map f zs) y c) [
      | inl h ↦ (z, Contains-first z zs, h)
      | inr h ↦ (let r = Contains-from_flat_map f zs y h in (r.0, Contains-later z r.0 zs r.1, r.2))
    ]

Contains-from_map : {X A : Type 0} (f : X → A) (xs : List X) (y : A) → Contains (map f xs) y → (x : X) × Contains xs x × (f x ≡ y)
Contains-from_map f xs y c =
    let at = slice_get-from_Contains (map f xs) y c in
    let from = slice_get_map_from f xs at.0 y at.1 in
    (from.0, Contains-from_slice_get xs at.0 from.0 from.1, from.2)

-- ---- the lines

module _ (l : Listed) (x : ℕ) where
  from_classes : Contains (class_elements l.classes.items) x → StandsIn (listed_of l) x
  from_classes c =
      let r = Contains-from_flat_map (λ (row : ClassRow). row.elements.items) l.classes.items x c in
      in_class (class_row_of r.0) (Contains-map class_row_of l.classes.items r.0 r.1) r.2

  from_pairs : Contains (pair_elements l.pairs.items) x → StandsIn (listed_of l) x
  from_pairs c =
      let r = Contains-from_flat_map (λ (row : PairRow). row.source ∷ targets_in row.targets) l.pairs.items x c in
      let there = Contains-map pair_row_of l.pairs.items r.0 r.1 in
      elim (Contains-cons_cases r.0.source x (targets_in r.0.targets) r.2) [
        | inl e ↦ as_source (pair_row_of r.0) there e
        | inr h ↦ as_target (pair_row_of r.0) there h
      ]

  from_claims : Contains (claim_elements l.claims.items) x → StandsIn (listed_of l) x
  from_claims c =
      let r = Contains-from_map (λ (claim : Claim). claim.element) l.claims.items x c in
      of_claim (claim_of r.0) (Contains-map claim_of l.claims.items r.0 r.1) r.2

  pub stands_from : Contains (elements_of_lines l) x → StandsIn (listed_of l) x
  stands_from c =
      elim (Contains-append_cases (class_elements l.classes.items ++ pair_elements l.pairs.items ++ l.individuals.items) (claim_elements l.claims.items) x c) [
        | inr h ↦ from_claims h
        | inl d ↦ elim (Contains-append_cases (class_elements l.classes.items ++ pair_elements l.pairs.items) l.individuals.items x d) [
          | inr h ↦ of_individual h
          | inl e ↦ elim (Contains-append_cases (class_elements l.classes.items) (pair_elements l.pairs.items) x e) [
            | inr h ↦ from_pairs h
            | inl h ↦ from_classes h
          ]
        ]
      ]

  among_rows : Contains (class_elements l.classes.items ++ pair_elements l.pairs.items) x → Contains (elements_of_lines l) x
  among_rows c =
      Contains-append_left (class_elements l.classes.items ++ pair_elements l.pairs.items ++ l.individuals.items) (claim_elements l.claims.items) x
      (Contains-append_left (class_elements l.classes.items ++ pair_elements l.pairs.items) l.individuals.items x c)

  pub classes_among : Contains (class_elements l.classes.items) x → Contains (elements_of_lines l) x
  classes_among c = among_rows (Contains-append_left (class_elements l.classes.items) (pair_elements l.pairs.items) x c)

  pub pairs_among : Contains (pair_elements l.pairs.items) x → Contains (elements_of_lines l) x
  pairs_among c = among_rows (Contains-append_right (class_elements l.classes.items) (pair_elements l.pairs.items) x c)

  class_stands : (row : ℕ × List ℕ) → Contains (map class_row_of l.classes.items) row → Contains row.1 x → Contains (elements_of_lines l) x
  class_stands row c d =
      let r = Contains-from_map class_row_of l.classes.items row c in
      classes_among (Contains-flat_map (λ (row : ClassRow). row.elements.items) l.classes.items r.0 x r.1 (subst (λ (w : ℕ × List ℕ). Contains w.1 x) (sym r.2) d))

  pair_stands : (row : ℕ × ℕ × List ℕ) → Contains (map pair_row_of l.pairs.items) row → Contains (row.1 ∷ row.2) x → Contains (elements_of_lines l) x
  pair_stands row c d =
      let r = Contains-from_map pair_row_of l.pairs.items row c in
      pairs_among (Contains-flat_map (λ (row : PairRow). row.source ∷ targets_in row.targets) l.pairs.items r.0 x r.1 (subst (λ (w : ℕ × ℕ × List ℕ). Contains (w.1 ∷ w.2) x) (sym r.2) d))

  pub individual_stands : Contains l.individuals.items x → Contains (elements_of_lines l) x
  individual_stands c =
      Contains-append_left (class_elements l.classes.items ++ pair_elements l.pairs.items ++ l.individuals.items) (claim_elements l.claims.items) x
      (Contains-append_right (class_elements l.classes.items ++ pair_elements l.pairs.items) l.individuals.items x c)

  claim_stands : (claim : ℕ × ℕ) → Contains (map claim_of l.claims.items) claim → claim.1 ≡ x → Contains (elements_of_lines l) x
  claim_stands claim c e =
      let r = Contains-from_map claim_of l.claims.items claim c in
      let same : r.0.element ≡ x = ap (λ (w : ℕ × ℕ). w.1) r.2 ∙ e in
      Contains-append_right (class_elements l.classes.items ++ pair_elements l.pairs.items ++ l.individuals.items) (claim_elements l.claims.items) x
      (subst (λ (y : ℕ). Contains (claim_elements l.claims.items) y) same (Contains-map (λ (claim : Claim). claim.element) l.claims.items r.0 r.1))

  pub stands_to : StandsIn (listed_of l) x → Contains (elements_of_lines l) x
  stands_to (in_class row c d) = class_stands row c d
  stands_to (as_source row c e) = pair_stands row c (subst (λ (y : ℕ). Contains (row.1 ∷ row.2) y) e (Contains-first row.1 row.2))
  stands_to (as_target row c d) = pair_stands row c (Contains-later row.1 x row.2 d)
  stands_to (of_individual c) = individual_stands c
  stands_to (of_claim claim c e) = claim_stands claim c e
