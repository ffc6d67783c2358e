-- Groups of classes, one after the other.
use Rattle.std.proofs.Common.{◌≡◌, ◌↔◌, ◌⊎◌, ◌==◌, ℕ, ◌+◌, ◌<◌, ◌≤◌, true, List, [], ◌∷◌, ◌++◌, length, map, take, slice_get, get_or, Some, Contains, inl, inr, ⊎_elim, sym, ap, ◌∙◌, subst, subst₂, arith}
use Rattle.std.specs.List.{list_any}
use Rattle.std.specs.Cmp.Lexicographic.{slice_cmp}
use Rattle.std.specs.Ordering.{is_lt, nat_cmp, ordering_reverse}
use Rattle.std.specs.declared.cmp.Ordering.{Ordering}
use Rattle.std.specs.declared.cmp.Ordering.TheVariants.{Less, Equal, Greater}
use Rattle.std.proofs.lemmas.Bool.{cases_order, eq-eqb, eqb-true, false≢true, or_cases, or_left, or_right}
use Rattle.std.proofs.lemmas.Cmp.{nat_list_cmp_total}
use Rattle.std.proofs.lemmas.List.{map-append, take_all}
use Rattle.std.proofs.lemmas.List.Elements.{Contains-append_left, Contains-append_right, Contains-append_cases}
use Rattle.std.proofs.lemmas.List.Quantifiers.{all_pairs_push}
use Rattle.std.proofs.lemmas.Option.{get_or_from_slice_get, same_Some, slice_get_within, slice_get-get_or, unwrap_or-slice_get}
use Rattle.lemmas.proofs.Mapped.{slice_get_map_from}
use Rattle.lemmas.proofs.Members.{Contains-cons_cases, Contains-first, Contains-from_slice_get, Contains-later, Contains-none, Contains-one, slice_get-from_Contains}
use Rattle.lemmas.proofs.Places.{slice_get_take, take_push, take_slice_get}
use Rattle.axioms.specs.Expression.{Iri}
use Rattle.axioms.specs.Ontology.{Ontology}
use Rattle.taxonomy.specs.Relation.{is_listed}
use Rattle.answers.specs.Names.{AreInByteOrder, AreThose, HasNumber}
use Rattle.answers.specs.Neighbours.{AreGroups, AreSame, IsClosed, TellsGroup, first_of}
use Rattle.answers.proofs.Naming.{name_is, those_same}
use Rattle.answers.proofs.Below.{same_all, same_back, same_itself}

-- ---- numbers of a list

pub listed_is : (xs : List ℕ) (d : ℕ) → (list_any (λ e. e == d) xs ≡ true) ↔ Contains xs d
listed_is [] d = (λ t. absurd (false≢true t), λ there. absurd (Contains-none d there))
listed_is (x ∷ xs) d = (
  λ t. ⊎_elim (λ h. subst (Contains (x ∷ xs)) (eqb-true x d h) (Contains-first x xs)) (λ h. Contains-later x d xs ((listed_is xs d).0 h)) (or_cases (x == d) (list_any (λ e. e == d) xs) t),
  λ there. ⊎_elim (λ e. or_left (x == d) (list_any (λ e. e == d) xs) (eq-eqb x d e)) (λ h. or_right (x == d) (list_any (λ e. e == d) xs) ((listed_is xs d).1 h)) (Contains-cons_cases x d xs there),
)

-- the numbers of a list that pass, one after the other
module _ (xs : List ℕ) (k x : ℕ) (at : slice_get xs k ≡ Some x) (P : ℕ → Type 0) (old : List ℕ) (was : (d : ℕ) → Contains old d ↔ (Contains (take k xs) d × P d)) where
  more : (d : ℕ) → Contains (take (k + 1) xs) d → Contains (take k xs) d ⊎ (x ≡ d)
  more d there = ⊎_elim (λ h. inl h) (λ h. inr (Contains-one x d h)) (Contains-append_cases (take k xs) (x ∷ []) d (subst (λ (l : List ℕ). Contains l d) (take_push xs k x at) there))

  before : (d : ℕ) → Contains (take k xs) d → Contains (take (k + 1) xs) d
  before d there = subst (λ (l : List ℕ). Contains l d) (sym (take_push xs k x at)) (Contains-append_left (take k xs) (x ∷ []) d there)

  pub passed : (new : List ℕ) → new ≡ old ++ x ∷ [] → P x → (d : ℕ) → Contains new d ↔ (Contains (take (k + 1) xs) d × P d)
  passed new is p d = (
    λ there. ⊎_elim
        (λ h. (let (a, b) = (was d).0 h in (before d a, b)))
        (λ h. (let same = Contains-one x d h in (
          subst (λ (l : List ℕ). Contains l d) (sym (take_push xs k x at)) (Contains-append_right (take k xs) (x ∷ []) d h),
          subst P same p,
        )))
        (Contains-append_cases old (x ∷ []) d (subst (λ (l : List ℕ). Contains l d) is there)),
    λ h. subst (λ (l : List ℕ). Contains l d) (sym is) (⊎_elim
        (λ a. Contains-append_left old (x ∷ []) d ((was d).1 (a, h.1)))
        (λ e. Contains-append_right old (x ∷ []) d (subst (Contains (x ∷ [])) e (Contains-first x [])))
        (more d h.0)),
  )

  pub failed : (P x → ⊥) → (d : ℕ) → Contains old d ↔ (Contains (take (k + 1) xs) d × P d)
  failed other d = (
    λ there. (let (a, b) = (was d).0 there in (before d a, b)),
    λ h. ⊎_elim (λ a. (was d).1 (a, h.1)) (λ e. absurd (other (subst P (sym e) h.1))) (more d h.0),
  )

-- ---- names in order

abbrev Before : Iri → Iri → Type 0
Before a b = is_lt (slice_cmp nat_cmp a b) ≡ true

not_both : (a b : Iri) → Before a b → Before b a → ⊥
not_both a b h k = go (slice_cmp nat_cmp a b) (slice_cmp nat_cmp b a) (nat_list_cmp_total.antisymm a b) h k
  where
    go : (r t : Ordering) → r ≡ ordering_reverse t → is_lt r ≡ true → is_lt t ≡ true → ⊥
    go Less Less e p q = cc
    go Equal t e p q = false≢true p
    go Greater t e p q = false≢true p
    go Less Equal e p q = false≢true q
    go Less Greater e p q = false≢true q

in_order : (names : List Iri) → AreInByteOrder names → (i j : ℕ) (a b : Iri) → slice_get names i ≡ Some a → slice_get names j ≡ Some b → i < j → Before a b
in_order names up i j a b at there low =
    subst₂ (λ (x y : Iri). is_lt (slice_cmp nat_cmp x y) ≡ true) (get_or_from_slice_get names i a a at) (get_or_from_slice_get names j b a there) (up i j a low (slice_get_within names j b there))

pub first_at : (names : List Iri) → 0 < length names → slice_get names 0 ≡ Some (first_of names)
first_at names low = slice_get-get_or names 0 [] low ∙ ap (λ x. Some x) (sym (unwrap_or-slice_get names 0 []))

some_one : (xs : List Iri) (n : ℕ) (a b : Iri) → slice_get xs n ≡ Some a → slice_get xs n ≡ Some b → a ≡ b
some_one xs n a b at there = same_Some a b (sym at ∙ there)

-- ---- one group after the other

pub record AreGroupsOf (o : Ontology) (done : List Iri) (groups : List (List Iri)) : Type 0 where
  pub ordered : AreInByteOrder (map first_of groups)
  pub firsts : (group : List Iri) → Contains groups group → Contains done (first_of group)
  pub each : (group : List Iri) → Contains groups group → (class : Iri) × Contains done class × AreThose o.names.classes (AreSame o class) group
  pub all : (class : Iri) → Contains done class → (group : List Iri) × Contains groups group × Contains group class

pub no_groups : (o : Ontology) (groups : List (List Iri)) → groups ≡ [] → AreGroupsOf o [] groups
no_groups o groups none = subst (AreGroupsOf o []) (sym none) (record {
  ordered = λ i j d low high. absurd (omega (arith, high));
  firsts = λ group there. absurd (Contains-none group there);
  each = λ group there. absurd (Contains-none group there);
  all = λ class there. absurd (Contains-none class there);
})

module _ (o : Ontology) (names : List Iri) (up : AreInByteOrder names) (closed : IsClosed o names) (known : (name : Iri) → Contains names name → Contains o.names.classes name)
    (k : ℕ) (name : Iri) (at : slice_get names k ≡ Some name) (groups : List (List Iri)) (was : AreGroupsOf o (take k names) groups) (group : List Iri) (are : AreThose o.names.classes (AreSame o name) group) where
  done_more : take (k + 1) names ≡ take k names ++ name ∷ []
  done_more = take_push names k name at

  kept : (x : Iri) → Contains (take k names) x → Contains (take (k + 1) names) x
  kept x there = subst (λ (l : List Iri). Contains l x) (sym done_more) (Contains-append_left (take k names) (name ∷ []) x there)

  now : Contains (take (k + 1) names) name
  now = subst (λ (l : List Iri). Contains l name) (sym done_more) (Contains-append_right (take k names) (name ∷ []) name (Contains-first name []))

  cases : (x : Iri) → Contains (take (k + 1) names) x → Contains (take k names) x ⊎ (name ≡ x)
  cases x there = ⊎_elim (λ h. inl h) (λ h. inr (Contains-one name x h)) (Contains-append_cases (take k names) (name ∷ []) x (subst (λ (l : List Iri). Contains l x) done_more there))

  within : Contains group name
  within = are.all name (known name (Contains-from_slice_get names k name at)) (same_itself o name)

  pub has_first : 0 < length group
  has_first = (let (n, there) = slice_get-from_Contains group name within in let low = slice_get_within group n name there in omega arith)

  -- it is the first of its group
  pub leading : (new : List (List Iri)) → new ≡ groups ++ group ∷ [] → first_of group ≡ name → AreGroupsOf o (take (k + 1) names) new
  leading new is first = subst (AreGroupsOf o (take (k + 1) names)) (sym is) (record {
    ordered = subst AreInByteOrder (sym (map-append first_of groups (group ∷ []))) (all_pairs_push (λ a b. is_lt (slice_cmp nat_cmp a b) ≡ true) (map first_of groups) (first_of group) was.ordered after);
    firsts = λ g there. ⊎_elim
        (λ h. kept (first_of g) (was.firsts g h))
        (λ h. subst (λ (l : List Iri). Contains (take (k + 1) names) (first_of l)) (Contains-one group g h) (subst (Contains (take (k + 1) names)) (sym first) now))
        (Contains-append_cases groups (group ∷ []) g there);
    each = λ g there. ⊎_elim
        (λ h. (let (class, done, those) = was.each g h in (class, kept class done, those)))
        (λ h. (name, now, subst (AreThose o.names.classes (AreSame o name)) (Contains-one group g h) are))
        (Contains-append_cases groups (group ∷ []) g there);
    all = λ class there. ⊎_elim
        (λ h. (let (g, is_in, has) = was.all class h in (g, Contains-append_left groups (group ∷ []) g is_in, has)))
        (λ e. (group, Contains-append_right groups (group ∷ []) group (Contains-first group []), subst (Contains group) e within))
        (cases class there);
  })
    where
      after : (n : ℕ) (d : Iri) → n < length (map first_of groups) → is_lt (slice_cmp nat_cmp (get_or (map first_of groups) n d) (first_of group)) ≡ true
      after n d low =
          let (g, there, e) = slice_get_map_from first_of groups n (get_or (map first_of groups) n d) (slice_get-get_or (map first_of groups) n d low) in
          let (m, found) = slice_get-from_Contains (take k names) (first_of g) (was.firsts g (Contains-from_slice_get groups n g there)) in
          let (less, here) = slice_get_take k names m (first_of g) found in
          subst₂ (λ (a b : Iri). is_lt (slice_cmp nat_cmp a b) ≡ true) e (sym first) (in_order names up m k (first_of g) name here at less)

  -- another one is the first, so it was there before
  pub following : (first_of group ≡ name → ⊥) → AreGroupsOf o (take (k + 1) names) groups
  following other = record {
    ordered = was.ordered;
    firsts = λ g there. kept (first_of g) (was.firsts g there);
    each = λ g there. (let (class, done, those) = was.each g there in (class, kept class done, those));
    all = λ class there. ⊎_elim (λ h. was.all class h) (λ e. subst (λ (c : Iri). (g : List Iri) × Contains groups g × Contains g c) e found) (cases class there);
  }
    where
      first_there : slice_get group 0 ≡ Some (first_of group)
      first_there = first_at group has_first

      first_in : Contains group (first_of group)
      first_in = Contains-from_slice_get group 0 (first_of group) first_there

      less : Before (first_of group) name
      less =
          let (n, there) = slice_get-from_Contains group name within in
          elim (cases_order 0 n) [
            | inl same ↦ absurd (other (some_one group 0 (first_of group) name first_there (subst (λ (m : ℕ). slice_get group m ≡ Some name) (sym same) there)))
            | inr apart ↦ elim apart [
              | inl low ↦ in_order group are.ordered 0 n (first_of group) name first_there there low
              | inr none ↦ absurd (omega (arith, none))
            ]
          ]

      done : Contains (take k names) (first_of group)
      done =
          let (_, same) = are.each (first_of group) first_in in
          let known_first = (are.each (first_of group) first_in).0 in
          let (n, there) = slice_get-from_Contains names (first_of group) (closed name (first_of group) (Contains-from_slice_get names k name at) known_first same) in
          elim (cases_order n k) [
            | inl one ↦ absurd (other (some_one names k (first_of group) name (subst (λ (m : ℕ). slice_get names m ≡ Some (first_of group)) one there) at))
            | inr apart ↦ elim apart [
              | inl low ↦ Contains-from_slice_get (take k names) n (first_of group) (take_slice_get k names n (first_of group) low there)
              | inr high ↦ absurd (not_both (first_of group) name less (in_order names up k n name (first_of group) at there high))
            ]
          ]

      found : (g : List Iri) × Contains groups g × Contains g name
      found =
          let (g, is_in, has) = was.all (first_of group) done in
          let (class, _, those) = was.each g is_in in
          let same = (are.each (first_of group) first_in).1 in
          let other_same = (those.each (first_of group) has).1 in
          (g, is_in, those.all name (known name (Contains-from_slice_get names k name at)) (same_all o class (first_of group) name other_same (same_back o name (first_of group) same)))

pub all_groups : (o : Ontology) (names : List Iri) (k : ℕ) → length names ≤ k → (known : (name : Iri) → Contains names name → Contains o.names.classes name) → (groups : List (List Iri)) → AreGroupsOf o (take k names) groups → AreGroups o (Contains names) groups
all_groups o names k end known groups are =
    let are' = subst (λ (l : List Iri). AreGroupsOf o l groups) (take_all k names end) are in record {
      ordered = are'.ordered;
      each = λ g there. (let (class, done, those) = are'.each g there in (class, known class done, done, those));
      all = λ class _ there. are'.all class there;
    }

-- ---- the group of one class

-- the names of the numbers that the lists tell are those of the classes that are the same
pub group_is : (o : Ontology) (lists : List (List ℕ)) (name : Iri) (n : ℕ) → slice_get o.names.classes n ≡ Some name → TellsGroup o lists name → (same : List ℕ)
    → ((d : ℕ) → Contains same d ↔ ((is_listed lists n d ≡ true) × (is_listed lists d n ≡ true))) → (names : List Iri) → names ≡ o.names.classes → (shown : List ℕ) → shown ≡ same → (answer : List Iri)
    → AreThose names (HasNumber names (Contains shown)) answer → AreThose o.names.classes (AreSame o name) answer
group_is o lists name n at tells same exact names is shown alike answer those =
    let classes = o.names.classes in
    those_same classes answer (HasNumber classes (Contains same)) (AreSame o name)
    (λ other there. (
      λ v.
          let (d, here, is_in) = v in
          subst (AreSame o name) (name_is classes d other here) ((tells n d at).0 ((exact d).0 is_in)).1,
      λ both.
          let (d, here) = slice_get-from_Contains classes other there in
          (d, here, (exact d).1 ((tells n d at).1 (slice_get_within classes d other here, subst (AreSame o name) (sym (name_is classes d other here)) both))),
    ))
    (subst₂ (λ (xs : List Iri) (ys : List ℕ). AreThose xs (HasNumber xs (Contains ys)) answer) is alike those)
