-- What a listed interpretation lists is folded onto what the narrowed one lists.
use Rattle.std.proofs.Common.{◌≡◌, ℕ, zero, suc, ◌+◌, ◌<◌, ◌≤◌, ◌↔◌, ◌⊎◌, inl, inr, Bool, true, false, ◌==◌, ◌&&◌, if◌then◌else◌, List, [], ◌∷◌, length, get_or, map, slice_get, Some, Contains, refl, sym, ap, ◌∙◌, subst, arith}
use Rattle.std.specs.Cmp.{both_ways}
use Rattle.std.proofs.lemmas.Bool.{cases_order, eq-eqb, eqb-true, lt-ltb, le-ltb}
use Rattle.std.proofs.lemmas.Option.{slice_get-get_or}
use Rattle.std.proofs.lemmas.List.Elements.{Contains-get_or, All-contains}
use Rattle.axioms.specs.Expression.{owl_thing, owl_nothing}
use Rattle.axioms.specs.Ontology.{Ontology, IsClassAt, name_at, property_name, individual_name}
use Rattle.axioms.specs.WellFormedness.{IsOntology}
use Rattle.axioms.proofs.Trees.{one_class}
use Rattle.interpretation_spec.specs.Interpretation.{Interpretation, IsInterpretation}
use Rattle.interpretation_spec.specs.Folding.{Folds}
use Rattle.certificate.specs.Certificate.{Listed}
use Rattle.certificate.specs.Writability.{IsListedOf, IsNamedClass, AreElements}
use Rattle.lemmas.proofs.Mapped.{Contains-map, slice_get_map, slice_get_map_from}
use Rattle.lemmas.proofs.Members.{Contains-none, Contains-first, Contains-later, Contains-from_slice_get, slice_get-from_Contains}
use Rattle.listed_model.specs.Listing.{IsListing, elements_of, targets_of}
use Rattle.narrowing.specs.Narrowed.{StandsIn, in_class, as_source, as_target, of_individual, of_claim, IsNarrowed, place_among, narrowed_domain, narrowed_class, narrowed_pairs, narrowed_to}
use Rattle.narrowing.proofs.Climbing.{Climbs, climbs, missing, room, place_out, place_within, in_or_out, same_number, place_at}

-- ---- what is listed for a class or a source

elements_narrowed : (used : List ℕ) (rows : List (ℕ × List ℕ)) (e : ℕ) → elements_of (map (narrowed_class used) rows) e ≡ map (place_among used) (elements_of rows e)
elements_narrowed used [] e = refl
elements_narrowed used (row ∷ rows) e = go (row.0 == e) (elements_narrowed used rows e)
  where
    go : (b : Bool) → elements_of (map (narrowed_class used) rows) e ≡ map (place_among used) (elements_of rows e) → (if b then map (place_among used) row.1 else elements_of (map (narrowed_class used) rows) e) ≡ map (place_among used) (if b then row.1 else elements_of rows e)
    go true k = refl
    go false k = k

-- the elements that are listed stand in one of the rows
elements_in_row : (rows : List (ℕ × List ℕ)) (e x : ℕ) → Contains (elements_of rows e) x → (row : ℕ × List ℕ) × Contains rows row × Contains row.1 x
elements_in_row [] e x c = absurd (Contains-none x c)
elements_in_row (row ∷ rows) e x c = go (row.0 == e) c (elements_in_row rows e x)
  where
    go : (b : Bool) → Contains (if b then row.1 else elements_of rows e) x → (Contains (elements_of rows e) x → (r : ℕ × List ℕ) × Contains rows r × Contains r.1 x) → (r : ℕ × List ℕ) × Contains (row ∷ rows) r × Contains r.1 x
    go true c k = (row, Contains-first row rows, c)
    go false c k = (let (r, there, has) = k c in (r, Contains-later row r rows there, has))

targets_in_row : (rows : List (ℕ × ℕ × List ℕ)) (r x y : ℕ) → Contains (targets_of rows r x) y → (row : ℕ × ℕ × List ℕ) × Contains rows row × Contains row.2 y
targets_in_row [] r x y c = absurd (Contains-none y c)
targets_in_row (row ∷ rows) r x y c = go ((row.0 == r) && (row.1 == x)) c (targets_in_row rows r x y)
  where
    go : (b : Bool) → Contains (if b then row.2 else targets_of rows r x) y → (Contains (targets_of rows r x) y → (p : ℕ × ℕ × List ℕ) × Contains rows p × Contains p.2 y) → (p : ℕ × ℕ × List ℕ) × Contains (row ∷ rows) p × Contains p.2 y
    go true c k = (row, Contains-first row rows, c)
    go false c k = (let (p, there, has) = k c in (p, Contains-later row p rows there, has))

-- a number that is there is found by its place
same_test : (used : List ℕ) (y x : ℕ) → Contains used y → (place_among used y == place_among used x) ≡ (y == x)
same_test used y x c =
    both_ways (place_among used y == place_among used x) (y == x)
    (λ e. eq-eqb y x (same_number used y x c (eqb-true (place_among used y) (place_among used x) e)))
    (λ e. eq-eqb (place_among used y) (place_among used x) (ap (place_among used) (eqb-true y x e)))

targets_narrowed : (used : List ℕ) (rows : List (ℕ × ℕ × List ℕ)) (r x : ℕ) → ((row : ℕ × ℕ × List ℕ) → Contains rows row → Contains used row.1) → targets_of (map (narrowed_pairs used) rows) r (place_among used x) ≡ map (place_among used) (targets_of rows r x)
targets_narrowed used [] r x there = refl
targets_narrowed used (row ∷ rows) r x there =
    let rest = targets_narrowed used rows r x (λ p c. there p (Contains-later row p rows c)) in
    ap (λ b. if (row.0 == r) && b then map (place_among used) row.2 else targets_of (map (narrowed_pairs used) rows) r (place_among used x)) (same_test used row.1 x (there row (Contains-first row rows)))
    ∙ go ((row.0 == r) && (row.1 == x)) rest
  where
    go : (b : Bool) → targets_of (map (narrowed_pairs used) rows) r (place_among used x) ≡ map (place_among used) (targets_of rows r x)
        → (if b then map (place_among used) row.2 else targets_of (map (narrowed_pairs used) rows) r (place_among used x)) ≡ map (place_among used) (if b then row.2 else targets_of rows r x)
    go true k = refl
    go false k = k

-- a number is among these where its place is among theirs
from_places : (used xs : List ℕ) (x : ℕ) → ((y : ℕ) → Contains xs y → Contains used y) → Contains (map (place_among used) xs) (place_among used x) → Contains xs x
from_places used xs x there c =
    let (n, g) = slice_get-from_Contains (map (place_among used) xs) (place_among used x) c in
    let (y, gy, e) = slice_get_map_from (place_among used) xs n (place_among used x) g in
    let has : Contains xs y = Contains-from_slice_get xs n y gy in
    subst (λ z. Contains xs z) (same_number used y x (there y has) e) has

-- ---- how many elements there are

pub domain_cases : (used : List ℕ) (domain : ℕ) → ((length used < domain) × (narrowed_domain used domain ≡ length used + 1)) ⊎ ((domain ≤ length used) × (narrowed_domain used domain ≡ length used))
domain_cases used domain =
    elim (cases_order (length used) domain) [
      | inl e ↦ inr (omega arith, full (omega arith))
      | inr (inl l) ↦ inl (l, rw (lt-ltb (length used) domain l) refl)
      | inr (inr l) ↦ inr (omega arith, full (omega arith))
    ]
  where
    full : domain ≤ length used → narrowed_domain used domain ≡ length used
    full l = rw (le-ltb (length used) domain l) refl

-- ---- folding

module _ (o : Ontology) (w : IsOntology o) (l : Listed) (fits : IsListedOf o l) (used : List ℕ) (up : Climbs 0 used) (exact : (x : ℕ) → Contains used x ↔ StandsIn l x) where
  -- what stands in a line is an element
  pub below_domain : (x : ℕ) → Contains used x → x < l.domain
  below_domain x c = go ((exact x).0 c)
    where
      go : StandsIn l x → x < l.domain
      go (in_class row there has) =
          All-contains (λ x. x < l.domain) row.1 x (All-contains (λ c. IsNamedClass o c.0 × (2 ≤ c.0) × AreElements l.domain c.1) l.classes row fits.classes there).2.within has
      go (as_source row there is) =
          subst (λ x. x < l.domain) is (All-contains (λ p. (p.0 < length o.names.properties) × (p.1 < l.domain) × AreElements l.domain p.2) l.pairs row fits.pairs there).1
      go (as_target row there has) =
          All-contains (λ x. x < l.domain) row.2 x (All-contains (λ p. (p.0 < length o.names.properties) × (p.1 < l.domain) × AreElements l.domain p.2) l.pairs row fits.pairs there).2.within has
      go (of_individual has) = All-contains (λ x. x < l.domain) l.individuals x fits.individuals has
      go (of_claim claim there is) =
          subst (λ x. x < l.domain) is (All-contains (λ c. IsNamedClass o c.0 × (c.1 < l.domain)) l.claims claim fits.claims there).1

  listed_there : (e x : ℕ) → Contains (elements_of l.classes e) x → Contains used x
  listed_there e x c = let (row, there, has) = elements_in_row l.classes e x c in (exact x).1 (in_class row there has)

  source_there : (row : ℕ × ℕ × List ℕ) → Contains l.pairs row → Contains used row.1
  source_there row c = (exact row.1).1 (as_source row c refl)

  target_there : (r x y : ℕ) → Contains (targets_of l.pairs r x) y → Contains used y
  target_there r x y c = let (row, there, has) = targets_in_row l.pairs r x y c in (exact y).1 (as_target row there has)

  pub place_below : (x : ℕ) → x < l.domain → place_among used x < narrowed_domain used l.domain
  place_below x lx =
      elim (domain_cases used l.domain) [
        | inl (more, is) ↦ elim (in_or_out used x) [
          | inl c ↦ (let p = place_within used x c in omega arith)
          | inr absent ↦ (let p = place_out used x absent in omega arith)
        ]
        | inr (all, is) ↦ elim (in_or_out used x) [
          | inl c ↦ (let p = place_within used x c in omega arith)
          | inr absent ↦ (let p = room l.domain 0 used x up below_domain (omega arith) lx absent in absurd (omega arith))
        ]
      ]

  behind_last : (y : ℕ) → length used ≤ y → y < narrowed_domain used l.domain → (length used < l.domain) × (y ≡ length used)
  behind_last y ly l' =
      elim (domain_cases used l.domain) [
        | inl (more, is) ↦ (more, omega arith)
        | inr (all, is) ↦ absurd (omega arith)
      ]

  come_to : (y : ℕ) → y < narrowed_domain used l.domain → (x : ℕ) × (x < l.domain) × (place_among used x ≡ y)
  come_to y ly =
      elim (cases_order y (length used)) [
        | inl e ↦ outside (behind_last y (omega arith) ly)
        | inr (inl k) ↦ (get_or used y 0, below_domain (get_or used y 0) (Contains-get_or used y 0 k), place_at 0 used y 0 up k)
        | inr (inr k) ↦ outside (behind_last y (omega arith) ly)
      ]
    where
      outside : (length used < l.domain) × (y ≡ length used) → (x : ℕ) × (x < l.domain) × (place_among used x ≡ y)
      outside (more, e) =
          let (x, g) = missing l.domain 0 used up (omega arith) in
          (x, g.below_bound, place_out used x g.out ∙ sym e)

  module _ (i j : Interpretation) (p : IsListing o l i) (q : IsListing o (narrowed_to used l) j) (i_is : IsInterpretation i) (j_is : IsInterpretation j) where
    in_first : (x : ℕ) → x < i.size → x < l.domain
    in_first x h = subst (λ n. x < n) p.size h

    in_second : (y : ℕ) → y < narrowed_domain used l.domain → y < j.size
    in_second y h = subst (λ n. y < n) (sym q.size) h

    same_class : (c e x : ℕ) → IsClassAt o c e → x < i.size → i.class (name_at o.names.classes c) x ≡ j.class (name_at o.names.classes c) (place_among used x)
    same_class c zero x g h =
        let first : c ≡ 0 = one_class o c 0 0 g w.thing_node in
        let name : name_at o.names.classes c ≡ owl_thing = ap (name_at o.names.classes) first ∙ rw w.thing_name refl in
        subst (λ n. i.class n x ≡ j.class n (place_among used x)) (sym name) (i_is.thing x h ∙ sym (j_is.thing (place_among used x) (in_second (place_among used x) (place_below x (in_first x h)))))
    same_class c (suc zero) x g h =
        let second : c ≡ 1 = one_class o c 1 1 g w.nothing_node in
        let name : name_at o.names.classes c ≡ owl_nothing = ap (name_at o.names.classes) second ∙ rw w.nothing_name refl in
        subst (λ n. i.class n x ≡ j.class n (place_among used x)) (sym name) (i_is.nothing x h ∙ sym (j_is.nothing (place_among used x) (in_second (place_among used x) (place_below x (in_first x h)))))
    same_class c (suc (suc e)) x g h =
        let xs = elements_of l.classes (suc (suc e)) in
        let moved = elements_narrowed used l.classes (suc (suc e)) in
        let l' = in_second (place_among used x) (place_below x (in_first x h)) in
        let a = p.classes c (suc (suc e)) x g (omega arith) h in
        let b = q.classes c (suc (suc e)) (place_among used x) g (omega arith) l' in
        both_ways (i.class (name_at o.names.classes c) x) (j.class (name_at o.names.classes c) (place_among used x))
        (λ t. b.1 (subst (λ ys. Contains ys (place_among used x)) (sym moved) (Contains-map (place_among used) xs x (a.0 t))))
        (λ t. a.1 (from_places used xs x (listed_there (suc (suc e))) (subst (λ ys. Contains ys (place_among used x)) moved (b.0 t))))

    same_pair : (r x y : ℕ) → r < length o.names.properties → x < i.size → y < i.size → i.property (property_name o r) x y ≡ j.property (property_name o r) (place_among used x) (place_among used y)
    same_pair r x y lr lx ly =
        let ys = targets_of l.pairs r x in
        let moved = targets_narrowed used l.pairs r x source_there in
        let lx' = in_second (place_among used x) (place_below x (in_first x lx)) in
        let ly' = in_second (place_among used y) (place_below y (in_first y ly)) in
        let a = p.pairs r x y lr lx ly in
        let b = q.pairs r (place_among used x) (place_among used y) lr lx' ly' in
        both_ways (i.property (property_name o r) x y) (j.property (property_name o r) (place_among used x) (place_among used y))
        (λ t. b.1 (subst (λ zs. Contains zs (place_among used y)) (sym moved) (Contains-map (place_among used) ys y (a.0 t))))
        (λ t. a.1 (from_places used ys y (target_there r x) (subst (λ zs. Contains zs (place_among used y)) moved (b.0 t))))

    listed_at : (a : ℕ) → a < length o.names.individuals → slice_get l.individuals a ≡ Some (get_or l.individuals a 0)
    listed_at a la = slice_get-get_or l.individuals a 0 (rw fits.individuals_each la)

    -- the element of an individual stands in a line
    individual_there : (a : ℕ) → a < length o.names.individuals → Contains used (i.individual (individual_name o a))
    individual_there a la =
        let x = get_or l.individuals a 0 in
        let g = listed_at a la in
        subst (λ z. Contains used z) (sym (p.individuals a x g)) ((exact x).1 (of_individual (Contains-from_slice_get l.individuals a x g)))

    pub folds : Folds o i j (place_among used)
    folds = record {
      within = λ x lx. in_second (place_among used x) (place_below x (in_first x lx));
      onto = λ y ly. (let (x, lx, is) = come_to y (subst (λ n. y < n) q.size ly) in (x, subst (λ n. x < n) (sym p.size) lx, is));
      classes = λ c x lc lx. (let (e, g) = w.class_nodes c lc in same_class c e x g lx);
      pairs = λ r x y lr lx ly. same_pair r x y lr lx ly;
      individuals = λ a la.
          let x = get_or l.individuals a 0 in
          let g = listed_at a la in
          ap (place_among used) (p.individuals a x g) ∙ sym (q.individuals a (place_among used x) (slice_get_map (place_among used) l.individuals a x g));
      apart = λ a b la lb e. same_number used (i.individual (individual_name o a)) (i.individual (individual_name o b)) (individual_there a la) e;
    }

pub is_folded : (o : Ontology) → IsOntology o → (l m : Listed) → IsListedOf o l → (n : IsNarrowed l m) → (i j : Interpretation) → IsListing o l i → IsListing o m j → IsInterpretation i → IsInterpretation j → Folds o i j (place_among n.used)
is_folded o w l m fits n i j p q v u = folds o w l fits n.used (climbs n.used n.ascend) n.exact i j p (subst (λ k. IsListing o k j) n.narrowed q) v u
