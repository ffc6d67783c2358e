-- What the members of the contexts that are reached list is the generated part of the listed interpretation.
use Rattle.std.proofs.Common.{◌≡◌, ◌↔◌, ℕ, zero, suc, ◌<◌, ◌≤◌, inl, inr, List, [], ◌∷◌, Option, unwrap_or, length, get_or, slice_get, Some, AllPairs, Contains, refl, sym, ap, ◌∙◌, subst, arith}
use Rattle.std.specs.Cmp.{both_ways}
use Rattle.std.proofs.lemmas.Bool.{cases_order}
use Rattle.std.proofs.lemmas.Option.{none-some, same_Some, slice_get-get_or, slice_get_within, get_or_from_slice_get}
use Rattle.lemmas.proofs.Members.{Contains-from_slice_get, slice_get-from_Contains}
use Rattle.lemmas.proofs.Places.{slice_get_there}
use Rattle.axioms.specs.Expression.{owl_thing, owl_nothing}
use Rattle.axioms.specs.Ontology.{Ontology, IsClassAt, axiom_trees, name_at, property_name, individual_name}
use Rattle.axioms.specs.WellFormedness.{IsOntology}
use Rattle.axioms.proofs.Trees.{one_class}
use Rattle.certificate.specs.Certificate.{Listed}
use Rattle.closure.specs.Closure.{AreAsked, Context, Expression, Individual}
use Rattle.closure.specs.Groups.{least_same}
use Rattle.closure.proofs.Groups.{same_as_least}
use Rattle.countermodel.specs.Elements.{leader}
use Rattle.countermodel.specs.Reached.{IsListedPart, IsReachedFrom}
use Rattle.countermodel.specs.Reached as by_edges
use Rattle.countermodel.proofs.ListedPairs.{property_there}
use Rattle.countermodel.proofs.PartListed.{leader_leads, leader_satisfiable, reached_has}
use Rattle.exactness.specs.ListedInterpretation.{IsBefore, IsConsistent, IsListedInterpretation, IsSatisfiable}
use Rattle.exactness.proofs.Complete.{individual_at, listed_agrees, listed_is_model}
use Rattle.exactness.proofs.Listed.{one_place}
use Rattle.generated_part.specs.GeneratedPart.{IsGenerated, IsReached, individual, start, step}
use Rattle.interpretation_spec.specs.NamedInterpretation.{interpretation_of}
use Rattle.interpretation_spec.specs.Interpretation.{Interpretation, IsInterpretation, IsModel}
use Rattle.interpretation_spec.specs.NumberedInterpretation.{IsMadeFor, IsNumberedInterpretation, NumberedInterpretation}
use Rattle.interpretation_spec.proofs.Names.{stands_well}
use Rattle.listed_model.specs.Listing.{IsListing}
use Rattle.listed_model.proofs.Members.{rising}
use Rattle.answers.specs.Findings.{IsPartFor}

-- ---- places in a list of contexts

two_orders : (x y : Context) → IsBefore x y → IsBefore y x → ⊥
two_orders (Expression e) (Expression f) h l = omega (arith, h, l)
two_orders (Expression e) (Individual a) h l = absurd l
two_orders (Individual a) (Expression f) h l = absurd h
two_orders (Individual a) (Individual b) h l = omega (arith, h, l)

-- the place of each of these contexts among the others
record HasPlaces (xs ys : List Context) : Type 0 where
  places : List ℕ
  long : length places ≡ length ys
  each : (k m : ℕ) → slice_get places k ≡ Some m → (y : Context) × (slice_get ys k ≡ Some y) × (slice_get xs m ≡ Some y)

places_of : (xs ys : List Context) → ((k : ℕ) (y : Context) → slice_get ys k ≡ Some y → (m : ℕ) × (slice_get xs m ≡ Some y)) → HasPlaces xs ys
places_of xs [] there = record { places = []; long = refl; each = λ k m h. absurd (none-some m h) }
places_of xs (y ∷ ys) there = (let (m, at) = there 0 y refl in go m at (places_of xs ys (λ k. there (suc k))))
  where
    go : (m : ℕ) → slice_get xs m ≡ Some y → HasPlaces xs ys → HasPlaces xs (y ∷ ys)
    go m at rest = record { places = m ∷ rest.places; long = ap suc rest.long; each = each }
      where
        each : (k n : ℕ) → slice_get (m ∷ rest.places) k ≡ Some n → (z : Context) × (slice_get (y ∷ ys) k ≡ Some z) × (slice_get xs n ≡ Some z)
        each zero n h = (y, refl, subst (λ (j : ℕ). slice_get xs j ≡ Some y) (same_Some m n h) at)
        each (suc k) n h = rest.each k n h

name_is : (names : List (List ℕ)) (n : ℕ) (name : List ℕ) → slice_get names n ≡ Some name → name_at names n ≡ name
name_is names n name g = ap (λ (o : Option (List ℕ)). unwrap_or o []) g

module _ (o : Ontology) (asked : List ℕ) (w : IsOntology o) (there : AreAsked o asked) (consistent : IsConsistent o asked) (xs : List Context) (i : Interpretation) (is : IsListedInterpretation o asked xs i)
    (x : Context) (satisfiable : IsSatisfiable o asked x) (l : Listed) (new : ℕ) (part : IsListedPart o asked x l new) where
  ascend : AllPairs IsBefore xs
  ascend = is.contexts.ascend

  model : IsModel i (axiom_trees o)
  model = listed_is_model o asked xs i w there is consistent

  v : IsInterpretation i
  v = model.interpretation

  -- each context that is reached has a place in the whole
  place : (y : Context) → IsReachedFrom o asked (leader o x) y → (m : ℕ) × (slice_get xs m ≡ Some y)
  place y h =
      let has = reached_has o asked consistent (leader o x) (leader_satisfiable o asked consistent w x satisfiable) (leader_leads o asked x) y h in
      is.contexts.listed y has.0 has.1

  low : (m : ℕ) (y : Context) → slice_get xs m ≡ Some y → m < i.size
  low m y at = subst (λ (n : ℕ). m < n) (sym is.size) (slice_get_within xs m y at)

  from : ℕ
  from = (place (leader o x) by_edges.itself).0

  from_own : slice_get xs from ≡ Some (leader o x)
  unfolding from
  from_own = (place (leader o x) by_edges.itself).1

  has_places : HasPlaces xs part.elements
  has_places = places_of xs part.elements (λ k y at. place y (part.reached.pass k y at))

  abbrev elements : List ℕ
  elements = has_places.places

  -- the place of what stands in the part
  placed : (k : ℕ) (y : Context) → slice_get part.elements k ≡ Some y → (m : ℕ) × (slice_get elements k ≡ Some m) × (slice_get xs m ≡ Some y)
  placed k y at =
      let long = slice_get_within part.elements k y at in
      let (m, here) = slice_get_there elements k (omega (arith, long, has_places.long)) in
      let (z, at_z, there) = has_places.each k m here in
      (m, here, there ∙ ap Some (same_Some z y (sym at_z ∙ at)))

  -- ---- the order is the same

  rises : (j k m n : ℕ) → slice_get elements j ≡ Some m → slice_get elements k ≡ Some n → j < k → m < n
  rises j k m n at_m at_n earlier =
      let (y, in_y, at_y) = has_places.each j m at_m in
      let (z, in_z, at_z) = has_places.each k n at_n in
      let before : IsBefore y z = in_order part.elements part.reached.ascend j k y z in_y in_z earlier in
      elim (cases_order m n) [
        | inl same ↦
            let one : y ≡ z = same_Some y z (sym at_y ∙ subst (λ (d : ℕ). slice_get xs d ≡ Some z) (sym same) at_z) in
            let twice = subst (λ (u : Context). IsBefore u z) one before in
            absurd (two_orders z z twice twice)
        | inr (inl less) ↦ less
        | inr (inr more) ↦ absurd (two_orders y z before (in_order xs ascend n m z y at_z at_y more))
      ]
    where
      in_order : (ys : List Context) → AllPairs IsBefore ys → (j k : ℕ) (y z : Context) → slice_get ys j ≡ Some y → slice_get ys k ≡ Some z → j < k → IsBefore y z
      in_order ys up j k y z at_y at_z earlier =
          let first = get_or_from_slice_get ys j y y at_y in
          let second = get_or_from_slice_get ys k z y at_z in
          subst (λ (u : Context). IsBefore u z) first (subst (λ (u : Context). IsBefore (get_or ys j y) u) second (up j k y earlier (slice_get_within ys k z at_z)))

  pairs_rise : AllPairs (λ m n. m < n) elements
  pairs_rise = λ j k d earlier within.
      rises j k (get_or elements j d) (get_or elements k d) (slice_get-get_or elements j d (omega (arith, earlier, within))) (slice_get-get_or elements k d within) earlier

  -- ---- what is reached

  reached_by_pairs : (y : Context) → IsReachedFrom o asked (leader o x) y → (m : ℕ) → slice_get xs m ≡ Some y → IsReached o i from m
  reached_by_pairs _ by_edges.itself m at =
      subst (IsReached o i from) (one_place xs ascend from m (leader o x) from_own at) (start (low from (leader o x) from_own))
  reached_by_pairs _ (by_edges.individual a la) m at = individual a la (is.individuals a (least_same o a) m la (same_as_least o asked a) at)
  reached_by_pairs y (by_edges.onward r z h edge satisfiable leads) m at =
      let (n, at_z) = place z h in
      let lr = property_there o asked w z y r edge in
      step r n (reached_by_pairs z h n at_z) lr (low m y at) ((is.pairs r n m z y lr at_z at).1 edge)

  reached_by_edges : (m : ℕ) → IsReached o i from m → (y : Context) × (slice_get xs m ≡ Some y) × IsReachedFrom o asked (leader o x) y
  reached_by_edges _ (start l) = (leader o x, from_own, by_edges.itself)
  reached_by_edges m (individual a la e) = (
    Individual (least_same o a),
    subst (λ (n : ℕ). slice_get xs n ≡ Some (Individual (least_same o a))) e (individual_at o asked xs i w there is consistent a la),
    by_edges.individual a la,
  )
  reached_by_edges m (step r z h lr lm p) =
      let (u, at_u, reached) = reached_by_edges z h in
      let (y, at_y) = slice_get_there xs m (subst (λ (n : ℕ). m < n) is.size lm) in
      let edge = (is.pairs r z m u y lr at_u at_y).0 p in
      (y, at_y, by_edges.onward r u reached edge (is.contexts.satisfiable m y at_y) (is.contexts.leads m y at_y))

  each_reached : (m : ℕ) → Contains elements m ↔ IsReached o i from m
  each_reached m = (
    λ c.
        let (k, at) = slice_get-from_Contains elements m c in
        let (y, in_part, in_whole) = has_places.each k m at in
        reached_by_pairs y (part.reached.pass k y in_part) m in_whole,
    λ h.
        let (y, at, reached) = reached_by_edges m h in
        let (k, in_part) = part.reached.all y reached in
        let (n, here, at_n) = placed k y in_part in
        subst (Contains elements) (one_place xs ascend n m y at_n at) (Contains-from_slice_get elements k n here),
  )

  -- ---- what is said of it

  -- a class behind the first two is an expression behind the first two
  behind : (c e : ℕ) → IsClassAt o c e → 2 ≤ c → 2 ≤ e
  behind c zero at two = let same : c ≡ 0 = one_class o c 0 0 at w.thing_node in absurd (omega arith)
  behind c (suc zero) at two = let same : c ≡ 1 = one_class o c 1 1 at w.nothing_node in absurd (omega arith)
  behind c (suc (suc e)) at two = omega arith

  module _ (p : NumberedInterpretation) (valid : IsNumberedInterpretation p) (listing : IsListing o l (interpretation_of o.names p)) where
    in_part : (k : ℕ) (y : Context) → slice_get part.elements k ≡ Some y → k < (interpretation_of o.names p).size
    in_part k y at = omega (arith, slice_get_within part.elements k y at, part.domain, listing.size)

    class_same : (c k m : ℕ) → c < length o.names.classes → slice_get elements k ≡ Some m
        → (interpretation_of o.names p).class (name_at o.names.classes c) k ≡ i.class (name_at o.names.classes c) m
    class_same zero k m lc at =
        let (y, in_y, at_y) = has_places.each k m at in
        let name = name_is o.names.classes 0 owl_thing w.thing_name in
        let vp = stands_well o w p valid in
        ap (λ (n : List ℕ). (interpretation_of o.names p).class n k) name ∙ vp.thing k (in_part k y in_y) ∙ sym (ap (λ (n : List ℕ). i.class n m) name ∙ v.thing m (low m y at_y))
    class_same (suc zero) k m lc at =
        let (y, in_y, at_y) = has_places.each k m at in
        let name = name_is o.names.classes 1 owl_nothing w.nothing_name in
        let vp = stands_well o w p valid in
        ap (λ (n : List ℕ). (interpretation_of o.names p).class n k) name ∙ vp.nothing k (in_part k y in_y) ∙ sym (ap (λ (n : List ℕ). i.class n m) name ∙ v.nothing m (low m y at_y))
    class_same (suc (suc d)) k m lc at =
        let c = suc (suc d) in
        let (y, in_y, at_y) = has_places.each k m at in
        let (e, node) = w.class_nodes c lc in
        let high = behind c e node (omega arith) in
        let here = listing.classes c e k node high (in_part k y in_y) in
        let rows = part.classes.exact c e k y node high in_y in
        let whole = is.classes c e m y node at_y in
        both_ways ((interpretation_of o.names p).class (name_at o.names.classes c) k) (i.class (name_at o.names.classes c) m)
        (λ t. whole.1 (rows.0 (here.0 t)))
        (λ t. here.1 (rows.1 (whole.0 t)))

    pair_same : (r j k m n : ℕ) → r < length o.names.properties → slice_get elements j ≡ Some m → slice_get elements k ≡ Some n
        → (interpretation_of o.names p).property (property_name o r) j k ≡ i.property (property_name o r) m n
    pair_same r j k m n lr at_m at_n =
        let (y, in_y, at_y) = has_places.each j m at_m in
        let (z, in_z, at_z) = has_places.each k n at_n in
        let here = listing.pairs r j k lr (in_part j y in_y) (in_part k z in_z) in
        let rows = part.pairs.exact r j k y z in_y in_z in
        let whole = is.pairs r m n y z lr at_y at_z in
        both_ways ((interpretation_of o.names p).property (property_name o r) j k) (i.property (property_name o r) m n)
        (λ t. whole.1 (rows.0 (here.0 t)))
        (λ t. here.1 (rows.1 (whole.0 t)))

    individual_same : (a : ℕ) → a < length o.names.individuals → slice_get elements ((interpretation_of o.names p).individual (individual_name o a)) ≡ Some (i.individual (individual_name o a))
    individual_same a la =
        let (k, at) = slice_get_there l.individuals a (omega (arith, la, part.individuals.long)) in
        let (m, here, at_m) = placed k (Individual (least_same o a)) (part.individuals.each a k at) in
        let of_part = listing.individuals a k at in
        let of_whole = is.individuals a (least_same o a) m la (same_as_least o asked a) at_m in
        subst (λ (n : ℕ). slice_get elements n ≡ Some (i.individual (individual_name o a))) (sym of_part) (here ∙ ap Some (sym of_whole))

    generated : IsGenerated o i from (interpretation_of o.names p) new
    generated = record {
      elements = elements;
      ascend = rising elements pairs_rise;
      reached = each_reached;
      from_at = (let (m, here, at) = placed new (leader o x) part.own in here ∙ ap Some (one_place xs ascend m from (leader o x) at from_own));
      size = listing.size ∙ part.domain ∙ sym has_places.long;
      classes = class_same;
      pairs = pair_same;
      individuals = individual_same;
    }

    pub part_reached : IsMadeFor o.names p → IsPartFor o asked x p new
    part_reached made = record {
      made = made;
      elements = xs;
      whole = i;
      listed = is;
      agrees = listed_agrees o asked xs i w there is;
      model = model;
      from = from;
      own = from_own;
      generated = generated;
    }
