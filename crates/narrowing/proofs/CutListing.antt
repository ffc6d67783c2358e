-- What a listing lists is folded onto what it lists when it is cut into intervals.
use Rattle.std.proofs.Common.{◌≡◌, ℕ, suc, ◌+◌, ◌<◌, ◌≤◌, ◌==◌, ◌&&◌, ◌↔◌, inl, inr, Bool, true, false, if◌then◌else◌, List, [], ◌∷◌, ◌++◌, length, get_or, map, All, AllPairs, Contains, refl, sym, ap, ◌∙◌, subst, subst₂, arith}
use Rattle.std.specs.Cmp.{both_ways}
use Rattle.std.specs.List.{flat_map}
use Rattle.std.proofs.lemmas.Bool.{eq-eqb, eqb-true}
use Rattle.std.proofs.lemmas.Option.{slice_get_within, get_or_from_slice_get}
use Rattle.std.proofs.lemmas.List.{length-map}
use Rattle.std.proofs.lemmas.List.Elements.{Contains-get_or, All-contains, All-map, Contains-append_left, Contains-append_right}
use Rattle.axioms.specs.Ontology.{Ontology}
use Rattle.axioms.specs.WellFormedness.{IsOntology}
use Rattle.certificate.specs.Certificate.{Listed}
use Rattle.certificate.specs.Writability.{IsListedOf, IsNamedClass, AreElements, Ascends, IsPairBefore}
use Rattle.lemmas.proofs.Mapped.{All-from_map}
use Rattle.lemmas.proofs.Members.{Contains-none, Contains-first, Contains-later, Contains-cons_cases, Contains-from_slice_get}
use Rattle.lemmas.proofs.Pairs.{AllPairs-map, AllPairs-from_map}
use Rattle.listed_model.specs.Listing.{elements_of, targets_of}
use Rattle.narrowing.specs.FoldedListing.{FoldsListing, folded_claim}
use Rattle.certificate.specs.Held.{held_in, held_class, held_pairs, held_listing}
use Rattle.narrowing.specs.Renumbered.{renumbered_class, renumbered_pairs}
use Rattle.narrowing.specs.Cut.{single_points, points_in, points_of, interval_of, cut_at, AreStarts}
use Rattle.narrowing.proofs.Agreeing.{Agrees, agreeing_folds}
use Rattle.narrowing.proofs.Climbing.{Climbs, climbs}
use Rattle.narrowing.proofs.HeldRows.{Keeps, held_kept, single_begins}
use Rattle.narrowing.proofs.Intervals.{RisesAt, alone, intervals_monotone, intervals_rise, intervals_within, intervals_met}

-- ---- rows

-- a row of a held listing that is mapped
abbrev after_class : (ℕ → ℕ) → ℕ × List ℕ → ℕ × List ℕ
after_class f row = held_class (renumbered_class f row)

abbrev after_pairs : (ℕ → ℕ) → ℕ × ℕ × List ℕ → ℕ × ℕ × List ℕ
after_pairs f row = held_pairs (renumbered_pairs f row)

twice : {A B C : Type 0} (g : B → C) (f : A → B) (xs : List A) → map g (map f xs) ≡ map (λ x. g (f x)) xs
twice g f [] = refl
twice g f (x ∷ xs) = ap (λ ys. g (f x) ∷ ys) (twice g f xs)

class_keys : (f : ℕ → ℕ) (rows : List (ℕ × List ℕ)) → map (λ c. c.0) (map (after_class f) rows) ≡ map (λ c. c.0) (map held_class rows)
class_keys f [] = refl
class_keys f (row ∷ rows) = ap (λ ks. row.0 ∷ ks) (class_keys f rows)

claim_keys : (f : ℕ → ℕ) (claims : List (ℕ × ℕ)) → map (λ c. c.0) (map (folded_claim f) claims) ≡ map (λ c. c.0) claims
claim_keys f [] = refl
claim_keys f (claim ∷ claims) = ap (λ ks. claim.0 ∷ ks) (claim_keys f claims)

module _ (f : ℕ → ℕ) (d bound : ℕ) where
  -- the elements of a row stay
  abbrev ListKept : List ℕ → Type 0
  ListKept xs = Keeps f d bound (held_in xs) (held_in (map f xs))

  elements_kept : (rows : List (ℕ × List ℕ)) → ((row : ℕ × List ℕ) → Contains rows row → ListKept row.1) → (e x : ℕ) → x < d
      → Contains (elements_of (map held_class rows) e) x ↔ Contains (elements_of (map (after_class f) rows) e) (f x)
  elements_kept [] h e x lx = (λ c. absurd (Contains-none x c), λ c. absurd (Contains-none (f x) c))
  elements_kept (row ∷ rows) h e x lx =
      go (row.0 == e) ((h row (Contains-first row rows)).same x lx) (elements_kept rows (λ r c. h r (Contains-later row r rows c)) e x lx)
    where
      go : (b : Bool) → Contains (held_in row.1) x ↔ Contains (held_in (map f row.1)) (f x)
          → Contains (elements_of (map held_class rows) e) x ↔ Contains (elements_of (map (after_class f) rows) e) (f x)
          → Contains (if b then held_in row.1 else elements_of (map held_class rows) e) x ↔ Contains (if b then held_in (map f row.1) else elements_of (map (after_class f) rows) e) (f x)
      go true here later = here
      go false here later = later

  -- .. and its source is found where it was
  record PairsKept (row : ℕ × ℕ × List ℕ) : Type 0 where
    source : (x : ℕ) → x < d → f row.1 ≡ f x → row.1 ≡ x
    targets : ListKept row.2

  same_test : (y x : ℕ) → (f y ≡ f x → y ≡ x) → (f y == f x) ≡ (y == x)
  same_test y x h =
      both_ways (f y == f x) (y == x)
      (λ e. eq-eqb y x (h (eqb-true (f y) (f x) e)))
      (λ e. eq-eqb (f y) (f x) (ap f (eqb-true y x e)))

  targets_kept : (rows : List (ℕ × ℕ × List ℕ)) → ((row : ℕ × ℕ × List ℕ) → Contains rows row → PairsKept row) → (r x y : ℕ) → x < d → y < d
      → Contains (targets_of (map held_pairs rows) r x) y ↔ Contains (targets_of (map (after_pairs f) rows) r (f x)) (f y)
  targets_kept [] h r x y lx ly = (λ c. absurd (Contains-none y c), λ c. absurd (Contains-none (f y) c))
  targets_kept (row ∷ rows) h r x y lx ly =
      let kept = h row (Contains-first row rows) in
      let test = same_test row.1 x (kept.source x lx) in
      subst (λ b. Contains (targets_of (map held_pairs (row ∷ rows)) r x) y ↔ Contains (if (row.0 == r) && b then held_in (map f row.2) else targets_of (map (after_pairs f) rows) r (f x)) (f y)) (sym test)
      (go ((row.0 == r) && (row.1 == x)) (kept.targets.same y ly) (targets_kept rows (λ p c. h p (Contains-later row p rows c)) r x y lx ly))
    where
      go : (b : Bool) → Contains (held_in row.2) y ↔ Contains (held_in (map f row.2)) (f y)
          → Contains (targets_of (map held_pairs rows) r x) y ↔ Contains (targets_of (map (after_pairs f) rows) r (f x)) (f y)
          → Contains (if b then held_in row.2 else targets_of (map held_pairs rows) r x) y ↔ Contains (if b then held_in (map f row.2) else targets_of (map (after_pairs f) rows) r (f x)) (f y)
      go true here later = here
      go false here later = later

-- ---- points of the lines

of_each : {A : Type 0} (g : A → List ℕ) (xs : List A) (x : A) → Contains xs x → (s : ℕ) → Contains (g x) s → Contains (flat_map g xs) s
of_each g [] x c s h = absurd (Contains-none x c)
of_each g (y ∷ ys) x c s h =
    elim (Contains-cons_cases y x ys c) [
      | inl e ↦ Contains-append_left (g y) (flat_map g ys) s (subst (λ z. Contains (g z) s) (sym e) h)
      | inr d ↦ Contains-append_right (g y) (flat_map g ys) s (of_each g ys x d s h)
    ]

module _ (l : Listed) where
  abbrev in_classes : List ℕ
  in_classes = flat_map (λ row. points_in row.1) l.classes

  abbrev in_pairs : List ℕ
  in_pairs = flat_map (λ row. row.1 ∷ suc row.1 ∷ points_in row.2) l.pairs

  abbrev in_individuals : List ℕ
  in_individuals = single_points l.individuals

  abbrev in_claims : List ℕ
  in_claims = single_points (map (λ claim. claim.1) l.claims)

  class_point : (row : ℕ × List ℕ) → Contains l.classes row → (s : ℕ) → Contains (points_in row.1) s → Contains (points_of l) s
  class_point row there s c =
      Contains-append_left (in_classes ++ in_pairs ++ in_individuals) in_claims s
      (Contains-append_left (in_classes ++ in_pairs) in_individuals s
      (Contains-append_left in_classes in_pairs s (of_each (λ row. points_in row.1) l.classes row there s c)))

  pair_point : (row : ℕ × ℕ × List ℕ) → Contains l.pairs row → (s : ℕ) → Contains (row.1 ∷ suc row.1 ∷ points_in row.2) s → Contains (points_of l) s
  pair_point row there s c =
      Contains-append_left (in_classes ++ in_pairs ++ in_individuals) in_claims s
      (Contains-append_left (in_classes ++ in_pairs) in_individuals s
      (Contains-append_right in_classes in_pairs s (of_each (λ row. row.1 ∷ suc row.1 ∷ points_in row.2) l.pairs row there s c)))

  individual_point : (s : ℕ) → Contains in_individuals s → Contains (points_of l) s
  individual_point s c =
      Contains-append_left (in_classes ++ in_pairs ++ in_individuals) in_claims s
      (Contains-append_right (in_classes ++ in_pairs) in_individuals s c)

-- ---- folding

higher : (k n : ℕ) (xs : List ℕ) → Climbs k xs → ((x : ℕ) → Contains xs x → n ≤ x) → Climbs n xs
higher k n [] h l = tt
higher k n (x ∷ xs) h l = (l x (Contains-first x xs), h.1)

module _ (o : Ontology) (w : IsOntology o) (l : Listed) (starts : List ℕ) (fits : IsListedOf o (held_listing l)) (are : AreStarts l starts) where
  abbrev f : ℕ → ℕ
  f = interval_of starts

  abbrev bound : ℕ
  bound = length starts + 1

  up : Climbs 0 starts
  up = climbs starts are.ascend

  rises : (s : ℕ) → Contains (points_of l) s → RisesAt f l.domain s
  rises s c x y lx ly l' = intervals_rise 0 starts up s ((are.exact s).1 (c, omega arith, omega arith)) x y lx ly

  below : (x : ℕ) → x < l.domain → f x < bound
  below x lx = let g = intervals_within starts x in omega arith

  come_to : (y : ℕ) → y < bound → (x : ℕ) × (x < l.domain) × (f x ≡ y)
  come_to y ly =
      let positive : (x : ℕ) → Contains starts x → 1 ≤ x = λ x c. (let g = (are.exact x).0 c in omega (arith, g.1)) in
      let (x, there, is) = intervals_met 0 starts (higher 0 1 starts up positive) y (omega arith) in
      (x, elim there [ inl e ↦ (let some = fits.domain in omega arith) | inr c ↦ ((are.exact x).0 c).2 ], is)

  -- ---- rows

  class_fits : (row : ℕ × List ℕ) → Contains l.classes row → IsNamedClass o row.0 × (2 ≤ row.0) × AreElements l.domain (held_in row.1)
  class_fits row there =
      All-contains (λ c. IsNamedClass o c.0 × (2 ≤ c.0) × AreElements l.domain (held_in c.1)) l.classes row
      (All-from_map (λ c. IsNamedClass o c.0 × (2 ≤ c.0) × AreElements l.domain c.1) held_class l.classes fits.classes) there

  pairs_fit : (row : ℕ × ℕ × List ℕ) → Contains l.pairs row → (row.0 < length o.names.properties) × (row.1 < l.domain) × AreElements l.domain (held_in row.2)
  pairs_fit row there =
      All-contains (λ p. (p.0 < length o.names.properties) × (p.1 < l.domain) × AreElements l.domain (held_in p.2)) l.pairs row
      (All-from_map (λ p. (p.0 < length o.names.properties) × (p.1 < l.domain) × AreElements l.domain p.2) held_pairs l.pairs fits.pairs) there

  class_kept : (row : ℕ × List ℕ) → Contains l.classes row → ListKept f l.domain bound row.1
  class_kept row there = held_kept f l.domain bound (intervals_monotone starts) below row.1 (class_fits row there).2 (λ s c. rises s (class_point l row there s c))

  source_begins : (row : ℕ × ℕ × List ℕ) → Contains l.pairs row → RisesAt f l.domain row.1
  source_begins row there = rises row.1 (pair_point l row there row.1 (Contains-first row.1 (suc row.1 ∷ points_in row.2)))

  source_ends : (row : ℕ × ℕ × List ℕ) → Contains l.pairs row → RisesAt f l.domain (suc row.1)
  source_ends row there =
      rises (suc row.1) (pair_point l row there (suc row.1) (Contains-later row.1 (suc row.1) (suc row.1 ∷ points_in row.2) (Contains-first (suc row.1) (points_in row.2))))

  target_point : (row : ℕ × ℕ × List ℕ) → Contains l.pairs row → (s : ℕ) → Contains (points_in row.2) s → RisesAt f l.domain s
  target_point row there s c = rises s (pair_point l row there s (Contains-later row.1 s (suc row.1 ∷ points_in row.2) (Contains-later (suc row.1) s (points_in row.2) c)))

  pairs_kept : (row : ℕ × ℕ × List ℕ) → Contains l.pairs row → PairsKept f l.domain bound row
  pairs_kept row there =
      let (property, source, targets) = pairs_fit row there in
      record {
        source = λ x lx e. alone f l.domain row.1 x (source_begins row there) (source_ends row there) source lx e;
        targets = held_kept f l.domain bound (intervals_monotone starts) below row.2 targets (target_point row there);
      }

  individuals_apart : (x y : ℕ) → Contains l.individuals x → Contains l.individuals y → f x ≡ f y → x ≡ y
  individuals_apart x y c d e =
      let (begins, ends) = single_begins l.individuals x c in
      alone f l.domain x y (rises x (individual_point l x begins)) (rises (suc x) (individual_point l (suc x) ends))
      (All-contains (λ x. x < l.domain) l.individuals x fits.individuals c) (All-contains (λ x. x < l.domain) l.individuals y fits.individuals d) e

  -- ---- the whole

  classes_twice : map held_class (map (renumbered_class f) l.classes) ≡ map (after_class f) l.classes
  classes_twice = twice held_class (renumbered_class f) l.classes

  pairs_twice : map held_pairs (map (renumbered_pairs f) l.pairs) ≡ map (after_pairs f) l.pairs
  pairs_twice = twice held_pairs (renumbered_pairs f) l.pairs

  cut_agrees : Agrees (held_listing l) (held_listing (cut_at starts l)) f
  cut_agrees = record {
    within = below;
    onto = come_to;
    classes = λ e x lx.
        subst (λ rows. Contains (elements_of (map held_class l.classes) e) x ↔ Contains (elements_of rows e) (f x)) (sym classes_twice)
        (elements_kept f l.domain bound l.classes class_kept e x lx);
    pairs = λ r x y lx ly.
        subst (λ rows. Contains (targets_of (map held_pairs l.pairs) r x) y ↔ Contains (targets_of rows r (f x)) (f y)) (sym pairs_twice)
        (targets_kept f l.domain bound l.pairs pairs_kept r x y lx ly);
    individuals = refl;
    apart = individuals_apart;
  }

  classes_listed : All (λ c. IsNamedClass o c.0 × (2 ≤ c.0) × AreElements bound c.1) (map (after_class f) l.classes)
  classes_listed =
      All-map (λ c. IsNamedClass o c.0 × (2 ≤ c.0) × AreElements bound c.1) (after_class f) l.classes (λ k d lk.
      (let row = get_or l.classes k d in
      let there = Contains-get_or l.classes k d lk in
      let (named, two, elements) = class_fits row there in
      (named, two, (class_kept row there).elements)))

  pairs_listed : All (λ p. (p.0 < length o.names.properties) × (p.1 < bound) × AreElements bound p.2) (map (after_pairs f) l.pairs)
  pairs_listed =
      All-map (λ p. (p.0 < length o.names.properties) × (p.1 < bound) × AreElements bound p.2) (after_pairs f) l.pairs (λ k d lk.
      (let row = get_or l.pairs k d in
      let there = Contains-get_or l.pairs k d lk in
      let (property, source, elements) = pairs_fit row there in
      (property, below row.1 source, (pairs_kept row there).targets.elements)))

  before : (p q : ℕ × ℕ × List ℕ) → Contains l.pairs q → IsPairBefore (held_pairs p) (held_pairs q) → IsPairBefore (after_pairs f p) (after_pairs f q)
  before p q there (inl h) = inl h
  before p q there (inr h) = inr (h.0, source_begins q there p.1 q.1 h.1 (omega arith) (pairs_fit q there).1)

  pairs_in_order : AllPairs IsPairBefore (map (after_pairs f) l.pairs)
  pairs_in_order =
      AllPairs-map IsPairBefore (after_pairs f) l.pairs (λ m n p q mn gp gq.
      before p q (Contains-from_slice_get l.pairs n q gq)
      (subst₂ (λ p q. IsPairBefore (held_pairs p) (held_pairs q)) (get_or_from_slice_get l.pairs m p p gp) (get_or_from_slice_get l.pairs n q p gq)
      (AllPairs-from_map IsPairBefore held_pairs l.pairs fits.pairs_ascend m n p mn (slice_get_within l.pairs n q gq))))

  cut_listed : IsListedOf o (held_listing (cut_at starts l))
  cut_listed = record {
    domain = omega arith;
    classes = subst (All (λ c. IsNamedClass o c.0 × (2 ≤ c.0) × AreElements bound c.1)) (sym classes_twice) classes_listed;
    classes_ascend = subst (λ rows. Ascends (map (λ c. c.0) rows)) (sym classes_twice) (subst Ascends (sym (class_keys f l.classes)) fits.classes_ascend);
    pairs = subst (All (λ p. (p.0 < length o.names.properties) × (p.1 < bound) × AreElements bound p.2)) (sym pairs_twice) pairs_listed;
    pairs_ascend = subst (AllPairs IsPairBefore) (sym pairs_twice) pairs_in_order;
    individuals = All-map (λ x. x < bound) f l.individuals (λ k d lk. below (get_or l.individuals k d) (fits.individuals k d lk));
    individuals_each = length-map l.individuals f ∙ fits.individuals_each;
    claims = All-map (λ c. IsNamedClass o c.0 × (c.1 < bound)) (folded_claim f) l.claims (λ k d lk.
        (let c = fits.claims k d lk in (c.0, below (get_or l.claims k d).1 c.1)));
    claims_ascend = subst Ascends (sym (claim_keys f l.claims)) fits.claims_ascend;
  }

  pub cut_folds : FoldsListing o (held_listing l) (held_listing (cut_at starts l)) f
  cut_folds = record {
    listed = cut_listed;
    folded = agreeing_folds o w (held_listing l) (held_listing (cut_at starts l)) f fits cut_agrees;
    individuals = refl;
    claims = refl;
  }

pub cut_is_folded : (o : Ontology) → IsOntology o → (l : Listed) (starts : List ℕ) → IsListedOf o (held_listing l) → AreStarts l starts → FoldsListing o (held_listing l) (held_listing (cut_at starts l)) (interval_of starts)
cut_is_folded o w l starts fits are = cut_folds o w l starts fits are
