-- The part that is made of what is reached is the generated part.
use Rattle.std.proofs.Common.{◌≡◌, ◌↔◌, ℕ, zero, suc, ◌<◌, inl, inr, Bool, true, false, List, [], ◌∷◌, Option, unwrap_or, length, get_or, slice_get, Some, All, Contains, refl, sym, ap, ◌∙◌, subst, arith}
use Rattle.std.specs.Prelude.{slice_index}
use Rattle.std.proofs.lemmas.Option.{same_Some, slice_get_within, slice_get-get_or, get_or_from_slice_get}
use Rattle.lemmas.proofs.Members.{Contains-first, Contains-later, Contains-cons_cases, Contains-from_slice_get, slice_get-from_Contains}
use Rattle.axioms.specs.Expression.{owl_thing, owl_nothing}
use Rattle.axioms.specs.Ontology.{Ontology, name_at, property_name, individual_name}
use Rattle.axioms.specs.WellFormedness.{IsOntology}
use Rattle.interpretation_spec.specs.NamedInterpretation.{interpretation_of, is_target}
use Rattle.interpretation_spec.specs.Interpretation.{Interpretation, IsInterpretation}
use Rattle.interpretation_spec.specs.NumberedInterpretation.{NumberedInterpretation, IsNumberedInterpretation, members_of}
use Rattle.interpretation_spec.proofs.Names.{StandsFor, stands}
use Rattle.number_sets.specs.Members.{has}
use Rattle.number_sets.specs.Pieces.{list_at}
use Rattle.number_sets.specs.Search.{itself, onward, IsBounded}
use Rattle.number_sets.proofs.Members.{nothing_past}
use Rattle.generated_part.specs.Elements.{class_id, prop_id, IsByElement}
use Rattle.generated_part.specs.GeneratedPart.{IsReached, start, individual, step, IsGenerated}
use Rattle.generated_part.specs.Part.{AreChosen, IsPart}
use Rattle.generated_part.specs.Search.{IsFound, target_of}
use Rattle.generated_part.specs.declared.by_element.ByElement.{ByElement}

-- two tests that pass where the other does
same_tests : (a b : Bool) → (a ≡ true) ↔ (b ≡ true) → a ≡ b
same_tests true b h = sym (h.0 refl)
same_tests false true h = h.1 refl
same_tests false false h = refl

name_is : (names : List (List ℕ)) (n : ℕ) (name : List ℕ) → slice_get names n ≡ Some name → name_at names n ≡ name
name_is names n name g = ap (λ (o : Option (List ℕ)). unwrap_or o []) g

module _ (o : Ontology) (w : IsOntology o) (i : Interpretation) (v : IsInterpretation i) (rows : ByElement) (by : IsByElement o i rows) where
  pub pairs_bounded : IsBounded target_of rows.pairs
  pairs_bounded x (r, y) c =
      let low : x < length rows.pairs = nothing_past rows.pairs x (r, y) c in
      let there = ((by.pairs x y r (subst (λ (n : ℕ). x < n) by.pairs_each low)).0 c).1 in
      subst (λ (n : ℕ). y < n) (sym by.pairs_each) there

  individual_at : (a x : ℕ) → slice_get rows.individuals.items a ≡ Some x → x < i.size
  individual_at a x g = subst (λ (y : ℕ). y < i.size) (by.individuals a x g) (v.individuals (individual_name o a))

  pub individuals_within : All (λ x. x < length rows.pairs) rows.individuals.items
  individuals_within k d l = subst (λ (n : ℕ). get_or rows.individuals.items k d < n) (sym by.pairs_each) (individual_at k (get_or rows.individuals.items k d) (slice_get-get_or rows.individuals.items k d l))

  module _ (from : ℕ) (there : from < i.size) where
    abbrev Found : ℕ → Type 0
    Found x = IsFound (from ∷ rows.individuals.items) rows.pairs x

    within : (x : ℕ) → IsReached o i from x → x < i.size
    within x (start l) = l
    within x (individual a la e) = subst (λ (y : ℕ). y < i.size) e (v.individuals (individual_name o a))
    within x (step r y h lr lx p) = lx

    reached : (x : ℕ) → Found x → IsReached o i from x
    reached _ (itself x c) = elim (Contains-cons_cases from x rows.individuals.items c) [
      | inl e ↦ subst (IsReached o i from) e (start there)
      | inr h ↦
          (let (a, g) = slice_get-from_Contains rows.individuals.items x h in
          let low : a < length rows.individuals.items = slice_get_within rows.individuals.items a x g in
          individual a (omega (arith, low, by.individuals_each)) (by.individuals a x g))
    ]
    reached _ (onward x (r, y) f c) =
        let before = reached x f in
        let p = (by.pairs x y r (within x before)).0 c in
        step r.0 x before p.0 p.1 p.2

    found : (x : ℕ) → IsReached o i from x → Found x
    found _ (start l) = itself from (Contains-first from rows.individuals.items)
    found x (individual a la e) =
        let low : a < length rows.individuals.items = omega (arith, la, by.individuals_each) in
        let g = slice_get-get_or rows.individuals.items a 0 low in
        let same : get_or rows.individuals.items a 0 ≡ x = sym (by.individuals a (get_or rows.individuals.items a 0) g) ∙ e in
        itself x (Contains-later from x rows.individuals.items (Contains-from_slice_get rows.individuals.items a x (g ∙ ap Some same)))
    found y (step r x h lr ly p) = onward x (prop_id r, y) (found x h) ((by.pairs x y (prop_id r) (within x h)).1 (lr, ly, p))

    module _ (marks : List Bool) (n : ℕ) (all : n ≡ i.size) (exact : (x : ℕ) → (has marks x ≡ true) ↔ Found x) (elements places : List ℕ) (chosen : AreChosen marks n elements places)
        (part : NumberedInterpretation) (valid : IsNumberedInterpretation part) (is : IsPart rows elements places part) where
      abbrev At : ℕ → ℕ → Type 0
      At m x = slice_get elements m ≡ Some x

      low : (m x : ℕ) → At m x → x < i.size
      low m x h = subst (λ (k : ℕ). x < k) all (chosen.each m x h).0

      each_reached : (x : ℕ) → Contains elements x ↔ IsReached o i from x
      each_reached x = (
        λ c. (let (m, at) = slice_get-from_Contains elements x c in reached x ((exact x).0 (chosen.each m x at).1)),
        λ h. chosen.all x (subst (λ (k : ℕ). x < k) (sym all) (within x h)) ((exact x).1 (found x h)),
      )

      place : (x : ℕ) → IsReached o i from x → (m : ℕ) × At m x
      place x h = slice_get-from_Contains elements x ((each_reached x).1 h)

      place_is : (m x : ℕ) → At m x → slice_index places x ≡ m
      place_is m x at = get_or_from_slice_get places x m 0 (chosen.each m x at).2

      in_part : (m x : ℕ) → At m x → m < part.size
      in_part m x at = subst (λ (k : ℕ). m < k) (sym is.size) (slice_get_within elements m x at)

      from_placed : (new : ℕ) → slice_get places from ≡ Some new → At new from
      from_placed new h = (let (m, at) = place from (start there) in subst (λ (k : ℕ). At k from) (same_Some m new (sym (chosen.each m from at).2 ∙ h)) at)

      named : StandsFor o.names part (interpretation_of o.names part)
      named = stands o w part

      class_same : (c m x : ℕ) → c < length o.names.classes → At m x → (interpretation_of o.names part).class (name_at o.names.classes c) m ≡ i.class (name_at o.names.classes c) x
      class_same zero m x lc at =
          let name = name_is o.names.classes 0 owl_thing w.thing_name in
          named.classes 0 m lc ∙ valid.thing m (in_part m x at) ∙ sym (ap (λ (k : List ℕ). i.class k x) name ∙ v.thing x (low m x at))
      class_same (suc zero) m x lc at =
          let name = name_is o.names.classes 1 owl_nothing w.nothing_name in
          named.classes 1 m lc ∙ valid.nothing m ∙ sym (ap (λ (k : List ℕ). i.class k x) name ∙ v.nothing x (low m x at))
      class_same (suc (suc d)) m x lc at =
          let c = suc (suc d) in
          let says = by.classes x (class_id c) (low m x at) in
          let put = is.classes c m (omega arith) in
          named.classes c m lc
          ∙ same_tests (has (members_of part c) m) (i.class (name_at o.names.classes c) x) (
            λ t. (let p = put.0 t in (says.0 (subst (λ (y : ℕ). Contains (list_at rows.classes y) (class_id c)) (same_Some p.0 x (sym p.1 ∙ at)) p.2)).2),
            λ t. put.1 (x, at, says.1 (omega arith, lc, t)),
          )

      pair_same : (r m n x y : ℕ) → r < length o.names.properties → At m x → At n y → (interpretation_of o.names part).property (property_name o r) m n ≡ i.property (property_name o r) x y
      pair_same r m n x y lr at_m at_n =
          let says = by.pairs x y (prop_id r) (low m x at_m) in
          let put = is.pairs r m n in
          named.properties r m n lr ∙ same_tests (is_target part r m n) (i.property (property_name o r) x y) (
            λ t. (let p = put.0 t in joined p.0 p.1 p.2.0 p.2.1 p.2.2),
            λ t. put.1 (x, at_m, (y, says.1 (lr, low n y at_n, t), place_is n y at_n)),
          )
        where
          joined : (z : ℕ) → At m z → (u : ℕ) → Contains (list_at rows.pairs z) (prop_id r, u) → slice_index places u ≡ n → i.property (property_name o r) x y ≡ true
          joined z at_z u leads stands_at =
              let same : z ≡ x = same_Some z x (sym at_z ∙ at_m) in
              let p = (by.pairs x u (prop_id r) (low m x at_m)).0 (subst (λ (k : ℕ). Contains (list_at rows.pairs k) (prop_id r, u)) same leads) in
              let (k, at_k) = place u (step r x ((each_reached x).0 (Contains-from_slice_get elements m x at_m)) lr p.1 p.2) in
              let here : k ≡ n = sym (place_is k u at_k) ∙ stands_at in
              let one : u ≡ y = same_Some u y (sym at_k ∙ ap (slice_get elements) here ∙ at_n) in
              subst (λ (j : ℕ). i.property (property_name o r) x j ≡ true) one p.2

      individual_same : (a : ℕ) → a < length o.names.individuals → At ((interpretation_of o.names part).individual (individual_name o a)) (i.individual (individual_name o a))
      individual_same a la =
          let x = i.individual (individual_name o a) in
          let low_a : a < length rows.individuals.items = omega (arith, la, by.individuals_each) in
          let g = slice_get-get_or rows.individuals.items a 0 low_a in
          let y = get_or rows.individuals.items a 0 in
          let same : y ≡ x = sym (by.individuals a y g) in
          let put = is.individuals a y g in
          let (m, at) = place x (individual a la refl) in
          let stands_at = named.individuals a la ∙ get_or_from_slice_get part.individuals a (slice_index places y) 0 put ∙ ap (slice_index places) same ∙ place_is m x at in
          subst (λ (k : ℕ). At k x) (sym stands_at) at

      pub is_generated : (new : ℕ) → slice_get places from ≡ Some new → IsGenerated o i from (interpretation_of o.names part) new
      is_generated new h = record {
        elements = elements;
        ascend = chosen.ascend;
        reached = each_reached;
        from_at = from_placed new h;
        size = named.size ∙ is.size;
        classes = class_same;
        pairs = pair_same;
        individuals = individual_same;
      }
