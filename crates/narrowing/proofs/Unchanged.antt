-- A listing each of whose elements stands in a line.
use Rattle.std.proofs.Common.{◌≡◌, ℕ, List, [], ◌∷◌, length, map, Contains, refl, sym, ap, ap₂, ◌∙◌, arith}
use Rattle.std.proofs.lemmas.Bool.{le-ltb}
use Rattle.lemmas.proofs.Members.{Contains-first, Contains-later}
use Rattle.certificate.specs.Certificate.{Listed}
use Rattle.narrowing.specs.Narrowed.{StandsIn, in_class, as_source, as_target, of_individual, of_claim, place_among, narrowed_domain, narrowed_class, narrowed_pairs, narrowed_claim, narrowed_to}

map_same : {Y : Type 0} (f : Y → Y) (ys : List Y) → ((y : Y) → Contains ys y → f y ≡ y) → map f ys ≡ ys
map_same f [] h = refl
map_same f (y ∷ ys) h = ap₂ (λ z zs. z ∷ zs) (h y (Contains-first y ys)) (map_same f ys (λ z c. h z (Contains-later y z ys c)))

abbrev made : ℕ → List (ℕ × List ℕ) → List (ℕ × ℕ × List ℕ) → List ℕ → List (ℕ × ℕ) → Listed
made domain classes pairs individuals claims = record { domain = domain; classes = classes; pairs = pairs; individuals = individuals; claims = claims }

module _ (used : List ℕ) (l : Listed) (many : length used ≡ l.domain) (own : (x : ℕ) → StandsIn l x → place_among used x ≡ x) where
  same_domain : narrowed_domain used l.domain ≡ l.domain
  same_domain = rw (many, le-ltb l.domain l.domain (omega arith)) refl

  same_class : (row : ℕ × List ℕ) → Contains l.classes row → narrowed_class used row ≡ row
  same_class row c = ap (λ (xs : List ℕ). (row.0, xs)) (map_same (place_among used) row.1 (λ x d. own x (in_class row c d)))

  same_pairs : (row : ℕ × ℕ × List ℕ) → Contains l.pairs row → narrowed_pairs used row ≡ row
  same_pairs row c =
      ap₂ (λ (x : ℕ) (xs : List ℕ). (row.0, x, xs)) (own row.1 (as_source row c refl)) (map_same (place_among used) row.2 (λ x d. own x (as_target row c d)))

  same_claim : (claim : ℕ × ℕ) → Contains l.claims claim → narrowed_claim used claim ≡ claim
  same_claim claim c = ap (λ (x : ℕ). (claim.0, x)) (own claim.1 (of_claim claim c refl))

  pub unchanged : l ≡ narrowed_to used l
  unchanged =
      let classes = map_same (narrowed_class used) l.classes same_class in
      let pairs = map_same (narrowed_pairs used) l.pairs same_pairs in
      let individuals = map_same (place_among used) l.individuals (λ x c. own x (of_individual c)) in
      let claims = map_same (narrowed_claim used) l.claims same_claim in
      sym
      (ap (λ d. made d (map (narrowed_class used) l.classes) (map (narrowed_pairs used) l.pairs) (map (place_among used) l.individuals) (map (narrowed_claim used) l.claims)) same_domain
      ∙ ap (λ rows. made l.domain rows (map (narrowed_pairs used) l.pairs) (map (place_among used) l.individuals) (map (narrowed_claim used) l.claims)) classes
      ∙ ap (λ rows. made l.domain l.classes rows (map (place_among used) l.individuals) (map (narrowed_claim used) l.claims)) pairs
      ∙ ap (λ xs. made l.domain l.classes l.pairs xs (map (narrowed_claim used) l.claims)) individuals
      ∙ ap (made l.domain l.classes l.pairs l.individuals) claims)
