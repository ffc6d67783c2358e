-- The nearest of marked classes, by the lists of classes above them.
use Rattle.std.proofs.Common.{◌≡◌, ◌↔◌, ℕ, ◌<◌, All, Bool, true, false, ◌&&◌, not, List, [], length, slice_get, get_or, Some, Contains, inl, inr, refl, sym, ap, ◌∙◌, subst, subst₂}
use Rattle.std.proofs.lemmas.Bool.{cases_Bool, false≢true}
use Rattle.std.proofs.lemmas.Option.{slice_get-get_or, slice_get_within}
use Rattle.lemmas.proofs.Members.{Contains-from_slice_get, slice_get-from_Contains}
use Rattle.number_sets.proofs.Members.{has_within}
use Rattle.number_sets.specs.Members.{has as is_in}
use Rattle.axioms.specs.Expression.{Iri}
use Rattle.axioms.specs.Ontology.{Ontology, name_at}
use Rattle.axioms.specs.WellFormedness.{IsOntology}
use Rattle.classification.specs.Lists.{AreListsBy}
use Rattle.facts.specs.declared.contexts.Fact.{Fact}
use Rattle.taxonomy.specs.Relation.{is_listed}
use Rattle.answers.specs.Entailment.{LiesBelow}
use Rattle.answers.specs.Names.{AreThose, HasMark, IsMarked}
use Rattle.answers.specs.Neighbours.{AreGroups, AreSame, AreSatisfiable, IsClosed, IsFarther, IsNearer, IsNearest, LiesStrictlyBelow, PutsMarked, TellsGroup, farther}
use Rattle.program.specs.declared.question.Side.{Side}
use Rattle.program.specs.declared.question.Side.TheVariants.{Above, Below}
use Rattle.answers.proofs.Below.{same_back, strictly_same_left, strictly_same_right}
use Rattle.answers.proofs.Listing.{listed_within}
use Rattle.answers.proofs.Naming.{name_is}
use Rattle.answers.proofs.Neighbouring.{apart_is, groups_same}

-- the names of the nearest of the marked classes, as groups are made of them by the lists
pub record AreNearest (o : Ontology) (marks : List Bool) (lists : List (List ℕ)) (side : Side) (names : List Iri) : Type 0 where
  pub known : All (Contains o.names.classes) names
  pub closed : IsClosed o names
  pub within : (c d : ℕ) → is_listed lists c d ≡ true → d < length lists
  pub tells : All (TellsGroup o lists) names
  pub groups : (groups : List (List Iri)) → AreGroups o (Contains names) groups → AreGroups o (IsNearest o (HasMark o.names.classes marks) side) groups

module _ (o : Ontology) (w : IsOntology o) (facts : List Fact) (marks : List Bool) (long : length marks ≡ length o.names.classes) (satisfiable : AreSatisfiable o marks)
    (lists : List (List ℕ)) (are : AreListsBy (PutsMarked o marks) (length o.names.classes) facts lists)
    (listed_below : (n d : ℕ) → IsMarked marks n → d < length o.names.classes → (is_listed lists n d ≡ true) ↔ LiesBelow o (name_at o.names.classes n) (name_at o.names.classes d)) where
  abbrev classes : List Iri
  classes = o.names.classes

  abbrev name : ℕ → Iri
  name n = name_at classes n

  low_of : (n : ℕ) → IsMarked marks n → n < length classes
  low_of n mark = subst (λ (k : ℕ). n < k) long (has_within marks n mark)

  known_at : (n : ℕ) → n < length classes → Contains classes (name n)
  known_at n low = (let at = slice_get-get_or classes n [] low in Contains-from_slice_get classes n (name n) (at ∙ ap (λ x. Some x) (sym (name_is classes n (get_or classes n []) at))))

  at_name : (n : ℕ) → n < length classes → slice_get classes n ≡ Some (name n)
  at_name n low = (let at = slice_get-get_or classes n [] low in at ∙ ap (λ x. Some x) (sym (name_is classes n (get_or classes n []) at)))

  -- ---- by the lists

  within : (c d : ℕ) → is_listed lists c d ≡ true → d < length lists
  within c d listed = subst (λ (k : ℕ). d < k) (sym are.long) (listed_within o w marks facts lists are c d listed)

  marked_list : (c d : ℕ) → is_listed lists c d ≡ true → IsMarked marks c
  marked_list c d listed = (let (n, fact, at, puts) = (are.each c d).0 listed in puts.0)

  not_listed : (n d : ℕ) → IsMarked marks n → d < length classes → (is_listed lists n d ≡ false) ↔ (LiesBelow o (name n) (name d) → ⊥)
  not_listed n d mark low = (
    λ f h. false≢true (sym f ∙ (listed_below n d mark low).1 h),
    λ other. elim (cases_Bool (is_listed lists n d)) [ inl t ↦ absurd (other ((listed_below n d mark low).0 t)) | inr f ↦ f ],
  )

  tells_at : (n : ℕ) → IsMarked marks n → TellsGroup o lists (name n)
  tells_at n mark m d at =
      let same : m ≡ n = w.distinct_classes m n (name n) at (at_name n (low_of n mark)) in
      let P : ℕ → Type 0 = λ k. ((is_listed lists k d ≡ true) × (is_listed lists d k ≡ true)) ↔ ((d < length classes) × AreSame o (name n) (name d)) in
      subst P (sym same) (
        λ h.
            let low = subst (λ (k : ℕ). d < k) are.long (within n d h.0) in
            (low, ((listed_below n d mark low).0 h.0, (listed_below d n (marked_list d n h.1) (low_of n mark)).0 h.1)),
        λ h. ((listed_below n d mark h.0).1 h.1.0, (listed_below d n (satisfiable.closed n d mark h.0 h.1) (low_of n mark)).1 h.1.1),
      )

  -- ---- the nearest

  module _ (side : Side) (far near : List Bool) (far_are : (n : ℕ) → n < length marks → IsMarked far n ↔ IsFarther lists marks side n)
      (near_long : length near ≡ length marks) (near_has : (n : ℕ) → is_in near n ≡ (is_in marks n && not (is_in far n))) where
    near_are : (n : ℕ) → IsMarked near n ↔ (IsMarked marks n × (IsMarked far n → ⊥))
    near_are n = apart_is marks far near n (near_has n)

    low_near : (n : ℕ) → IsMarked near n → n < length marks
    low_near n mark = subst (λ (k : ℕ). n < k) near_long (has_within near n mark)

    is_far : (n low high : ℕ) → IsMarked marks low → IsMarked marks high → LiesStrictlyBelow o (name low) (name high) → n ≡ farther side low high → n < length marks → IsMarked far n
    is_far n low high mark mark' strictly is n_low =
        (far_are n n_low).1 (low, (high, (listed_below low high mark (low_of high mark')).1 strictly.0, (mark', (not_listed high low mark' (low_of low mark)).1 strictly.1, is)))

    far_is : (n : ℕ) → n < length marks → IsMarked far n
        → (low : ℕ) × (high : ℕ) × IsMarked marks low × IsMarked marks high × LiesStrictlyBelow o (name low) (name high) × (n ≡ farther side low high)
    far_is n n_low mark =
        let (low, (high, listed, (mark', not, is))) = (far_are n n_low).0 mark in
        let here = marked_list low high listed in
        (low, high, here, mark', ((listed_below low high here (low_of high mark')).0 listed, (not_listed high low mark' (low_of low here)).0 not), is)

    number_of : (x : Iri) → HasMark classes marks x → (n : ℕ) × IsMarked marks n × (name n ≡ x)
    number_of x (n, at, mark) = (n, mark, name_is classes n x at)

    nearest_at : (n : ℕ) → n < length marks → IsMarked near n ↔ IsNearest o (HasMark classes marks) side (name n)
    nearest_at n n_low = (λ mark. record { has = has mark; next = next mark }, λ h. (near_are n).1 (one h, other side refl h))
      where
        has : IsMarked near n → HasMark classes marks (name n)
        has mark = (let is = ((near_are n).0 mark).0 in (n, at_name n (low_of n is), is))

        nearer : (s : Side) → side ≡ s → (m : ℕ) → IsMarked marks m → IsMarked marks n → IsNearer o s (name m) (name n) → IsMarked far n
        nearer Above is m mark mark' strictly = is_far n m n mark mark' strictly (ap (λ (s : Side). farther s m n) (sym is)) n_low
        nearer Below is m mark mark' strictly = is_far n n m mark' mark strictly (ap (λ (s : Side). farther s n m) (sym is)) n_low

        next : IsMarked near n → (x : Iri) → Contains classes x → HasMark classes marks x → IsNearer o side x (name n) → ⊥
        next mark x known marked strictly =
            let (m, mark', here) = number_of x marked in
            let (is, other) = (near_are n).0 mark in
            other (nearer side refl m mark' is (subst (λ (y : Iri). IsNearer o side y (name n)) (sym here) strictly))

        one : IsNearest o (HasMark classes marks) side (name n) → IsMarked marks n
        one h =
            let (m, at, mark) = h.has in
            subst (IsMarked marks) (w.distinct_classes m n (name n) at (at_name n (subst (λ (k : ℕ). n < k) long n_low))) mark

        beyond : (s : Side) → side ≡ s → IsNearest o (HasMark classes marks) side (name n) → (low high : ℕ) → IsMarked marks low → IsMarked marks high → LiesStrictlyBelow o (name low) (name high) → n ≡ farther s low high → ⊥
        beyond Above is h low high mark mark' strictly e =
            h.next (name low) (known_at low (low_of low mark)) (low, at_name low (low_of low mark), mark)
            (subst (λ (s : Side). IsNearer o s (name low) (name n)) (sym is) (subst (λ (k : ℕ). LiesStrictlyBelow o (name low) (name k)) (sym e) strictly))
        beyond Below is h low high mark mark' strictly e =
            h.next (name high) (known_at high (low_of high mark')) (high, at_name high (low_of high mark'), mark')
            (subst (λ (s : Side). IsNearer o s (name high) (name n)) (sym is) (subst (λ (k : ℕ). LiesStrictlyBelow o (name k) (name high)) (sym e) strictly))

        other : (s : Side) → side ≡ s → IsNearest o (HasMark classes marks) side (name n) → IsMarked far n → ⊥
        other s is h mark =
            let (low, high, a, b, strictly, e) = far_is n n_low mark in
            beyond s is h low high a b strictly (e ∙ ap (λ (t : Side). farther t low high) is)

    nearer_same : (s : Side) (x a b : Iri) → AreSame o a b → IsNearer o s x b → IsNearer o s x a
    nearer_same Above x a b same strictly = strictly_same_right o x b a (same_back o a b same) strictly
    nearer_same Below x a b same strictly = strictly_same_left o b a x (same_back o a b same) strictly

    module _ (names : List Iri) (those : AreThose classes (HasMark classes near) names) where
      nearest_is : (x : Iri) → Contains classes x → Contains names x ↔ IsNearest o (HasMark classes marks) side x
      nearest_is x known = (
        λ there.
            let (n, at, mark) = (those.each x there).1 in
            subst (IsNearest o (HasMark classes marks) side) (name_is classes n x at) ((nearest_at n (low_near n mark)).0 mark),
        λ h.
            let (n, at) = slice_get-from_Contains classes x known in
            let low = subst (λ (k : ℕ). n < k) (sym long) (slice_get_within classes n x at) in
            those.all x known (n, at, (nearest_at n low).1 (subst (IsNearest o (HasMark classes marks) side) (sym (name_is classes n x at)) h)),
      )

      known_names : All (Contains classes) names
      known_names = λ k d low. (those.each (get_or names k d) (Contains-from_slice_get names k (get_or names k d) (slice_get-get_or names k d low))).0

      closed_names : IsClosed o names
      closed_names x y there known same =
          let h = (nearest_is x (those.each x there).0).0 there in
          let (n, at, mark) = h.has in
          let (m, at') = slice_get-from_Contains classes y known in
          let low = slice_get_within classes m y at' in
          let alike = subst₂ (λ (a b : Iri). AreSame o a b) (sym (name_is classes n x at)) (sym (name_is classes m y at')) same in
          (nearest_is y known).1 (record {
            has = (m, at', satisfiable.closed n m mark low alike);
            next = λ z known_z marked nearer. h.next z known_z marked (nearer_same side z x y same nearer);
          })

      tells_names : All (TellsGroup o lists) names
      tells_names = λ k d low.
          let x = get_or names k d in
          let there = Contains-from_slice_get names k x (slice_get-get_or names k d low) in
          let (n, at, mark) = (those.each x there).1 in
          subst (TellsGroup o lists) (name_is classes n x at) (tells_at n ((near_are n).0 mark).0)

      nearest_groups : (groups : List (List Iri)) → AreGroups o (Contains names) groups → AreGroups o (IsNearest o (HasMark classes marks) side) groups
      nearest_groups groups is = groups_same o (Contains names) (IsNearest o (HasMark classes marks) side) nearest_is groups is

      -- what the names are that are not far
      pub near_names : AreNearest o marks lists side names
      near_names = record { known = known_names; closed = closed_names; within = within; tells = tells_names; groups = nearest_groups }
