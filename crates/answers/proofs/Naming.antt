-- Names by their marks, and in byte order.
use Rattle.std.proofs.Common.{◌≡◌, ◌↔◌, ℕ, ◌+◌, ◌<◌, ◌≤◌, ⊎_elim, All, Bool, true, false, List, [], ◌∷◌, ◌++◌, length, map, slice_get, get_or, Some, Contains, Bor, take, refl, sym, ap, ap₂, ◌∙◌, subst, arith, below_more}
use Rattle.std.specs.Cmp.Lexicographic.{slice_cmp}
use Rattle.std.specs.List.Sorted.{IsPermutation, IsSorted}
use Rattle.std.specs.declared.cmp.Ordering.{Ordering}
use Rattle.std.specs.declared.cmp.Ordering.TheVariants.{Less, Equal, Greater}
use Rattle.std.specs.Ordering.{is_lt, is_eq, nat_cmp, ordering_reverse}
use Rattle.std.specs.List.{IsDistinct}
use Rattle.std.specs.Str.{bytes_eq}
use Rattle.std.proofs.lemmas.Bool.{cases_lt, false_from_ne_true}
use Rattle.std.proofs.lemmas.Cmp.{nat_list_cmp_total}
use Rattle.std.proofs.lemmas.List.{get_or-map, length-map, map-append}
use Rattle.std.proofs.lemmas.List.Sorted.{Contains-permutation, IsPermutation-map, IsPermutation-sym, ranks_by, sorted_far}
use Rattle.std.proofs.lemmas.Map.Keys.{IsDistinct-from_apart, IsDistinct-IsPermutation, apart_from_distinct}
use Rattle.std.proofs.lemmas.Map.Text.{is_eq-slice_cmp}
use Rattle.std.proofs.lemmas.Slice.Eq.{bytes_eq-Decides}
use Rattle.std.specs.Option.{unwrap_or}
use Rattle.std.proofs.lemmas.Option.{same_Some, slice_get_within, slice_get-get_or, unwrap_or-slice_get}
use Rattle.std.proofs.lemmas.List.Elements.{All-contains}
use Rattle.lemmas.proofs.Mapped.{slice_get_map, slice_get_map_from}
use Rattle.lemmas.proofs.Members.{Contains-from_slice_get, slice_get-from_Contains}
use Rattle.lemmas.proofs.Places.{slice_get_push, slice_get_push_cases, keeps_push, take_push}
use Rattle.axioms.specs.Expression.{Iri}
use Rattle.axioms.specs.Ontology.{name_at}
use Rattle.axioms.specs.WellFormedness.{AreDistinct}
use Rattle.answers.specs.Names.{AreInByteOrder, AreMarkedBelow, AreNamesOf, AreThose, HasMark, HasNumber, IsMarked}
use Rattle.answers.specs.Neighbours.{AreMarksOf}
use Rattle.taxonomy.proofs.Once.{same_truth}

-- ---- the same names by another property

pub those_same : (names answer : List Iri) (P Q : Iri → Type 0) → ((name : Iri) → Contains names name → P name ↔ Q name) → AreThose names P answer → AreThose names Q answer
those_same names answer P Q same are = record {
  ordered = are.ordered;
  each = λ name there. (let e = are.each name there in (e.0, (same name e.0).0 e.1));
  all = λ name there q. are.all name there ((same name there).1 q);
}

pub name_is : (names : List Iri) (n : ℕ) (name : Iri) → slice_get names n ≡ Some name → name_at names n ≡ name
name_is names n name at = ap (λ x. unwrap_or x []) at

-- a name has a mark where what its number answers holds
pub mark_tells : (names : List Iri) (marks : List Bool) (Q : Iri → Type 0) → ((n : ℕ) → n < length names → IsMarked marks n ↔ Q (name_at names n)) → (name : Iri) → Contains names name → HasMark names marks name ↔ Q name
mark_tells names marks Q tells name there = (
  λ v. subst Q (name_is names v.0 name v.1) ((tells v.0 (slice_get_within names v.0 name v.1)).0 v.2),
  λ q.
      let (n, at) = slice_get-from_Contains names name there in
      (n, at, (tells n (slice_get_within names n name at)).1 (subst Q (sym (name_is names n name at)) q)),
)

pub those_marked : (names : List Iri) (P : Iri → Type 0) (marks : List Bool) → AreMarksOf names P marks → (answer : List Iri) → AreThose names (HasMark names marks) answer → AreThose names P answer
those_marked names P marks are answer those = those_same names answer (HasMark names marks) P (mark_tells names marks P are.exact) those

-- ---- one name after another

module _ (k : ℕ) (names : List Iri) (marks : List Bool) (found : List Iri) (was : AreMarkedBelow k names marks found) where
  -- the same up to a later number, where from here on none that is marked has a name
  pub none_between : (l : ℕ) → k ≤ l → ((n : ℕ) (name : Iri) → k ≤ n → n < l → slice_get names n ≡ Some name → IsMarked marks n → ⊥) → AreMarkedBelow l names marks found
  none_between l up none = record {
    distinct = was.distinct;
    each = λ m name h. (let (n, at, (low, mark)) = was.each m name h in (n, at, (omega arith, mark)));
    all = λ n name at (low, mark). ⊎_elim
        (λ below. was.all n name at (below, mark))
        (λ above. absurd (none n name above low at mark))
        (cases_lt n k);
  }

  pub one_marked : (name : Iri) → AreDistinct names → slice_get names k ≡ Some name → IsMarked marks k → AreMarkedBelow (k + 1) names marks (found ++ name ∷ [])
  one_marked name apart here mark = record {
    distinct = distinct;
    each = λ m x h. ⊎_elim
        (λ old. (let (n, at, (low, is)) = was.each m x old in (n, at, (omega arith, is))))
        (λ new. (k, subst (λ y. slice_get names k ≡ Some y) new.1 here, (omega arith, mark)))
        (slice_get_push_cases found name m x h);
    all = λ n y at (low, mark). below_more (λ n. (x : Iri) → slice_get names n ≡ Some x → IsMarked marks n → (m : ℕ) × (slice_get (found ++ name ∷ []) m ≡ Some x)) k
        (λ n low x at is. (let (m, old) = was.all n x at (low, is) in (m, keeps_push found name m x old)))
        (λ x at is. (length found, subst (λ y. slice_get (found ++ name ∷ []) (length found) ≡ Some y) (same_Some name x (sym here ∙ at)) (slice_get_push found name))) n low y at mark;
  }
    where
      fresh : (m : ℕ) → slice_get found m ≡ Some name → ⊥
      fresh m old =
          let (n, at, (low, _)) = was.each m name old in
          let same : n ≡ k = apart n k name at here in
          absurd (omega arith)

      distinct : AreDistinct (found ++ name ∷ [])
      distinct m n x h l = ⊎_elim
          (λ old. ⊎_elim
          (λ other. was.distinct m n x old other)
          (λ new. absurd (fresh m (subst (λ y. slice_get found m ≡ Some y) (sym new.1) old)))
          (slice_get_push_cases found name n x l))
          (λ new. ⊎_elim
          (λ other. absurd (fresh n (subst (λ y. slice_get found n ≡ Some y) (sym new.1) other)))
          (λ same. new.0 ∙ sym same.0)
          (slice_get_push_cases found name n x l))
          (slice_get_push_cases found name m x h)

-- ---- in order

abbrev text_cmp : Bor Iri → Bor Iri → Ordering
text_cmp a b = slice_cmp nat_cmp a.now b.now

apart : (xs : List Iri) → AreDistinct xs → IsDistinct bytes_eq xs
apart xs distinct = IsDistinct-from_apart bytes_eq xs (λ i j d low high. false_from_ne_true (bytes_eq (get_or xs i d) (get_or xs j d)) (λ e. differ i j d low high ((bytes_eq-Decides (get_or xs i d) (get_or xs j d)).0 e)))
  where
    differ : (i j : ℕ) (d : Iri) → i < j → j < length xs → get_or xs i d ≡ get_or xs j d → ⊥
    differ i j d low high e =
        let same : i ≡ j = distinct i j (get_or xs j d) (slice_get-get_or xs i d (omega arith) ∙ ap (λ x. Some x) e) (slice_get-get_or xs j d high) in
        absurd (omega arith)

flips : (x y : Iri) → bytes_eq x y ≡ bytes_eq y x
flips x y =
    let d = bytes_eq-Decides x y in
    let e = bytes_eq-Decides y x in
    same_truth (bytes_eq x y) (bytes_eq y x) (λ t. e.1 (sym (d.0 t))) (λ t. d.1 (sym (e.0 t)))

-- neither before nor the same is after
only_less : (a b : Iri) → is_lt (slice_cmp nat_cmp b a) ≡ false → bytes_eq a b ≡ false → is_lt (slice_cmp nat_cmp a b) ≡ true
only_less a b up differ = go (slice_cmp nat_cmp a b) (slice_cmp nat_cmp b a) (nat_list_cmp_total.antisymm b a) (is_eq-slice_cmp a b ∙ differ) up
  where
    go : (r t : Ordering) → t ≡ ordering_reverse r → is_eq r ≡ false → is_lt t ≡ false → is_lt r ≡ true
    go Less t e h l = refl
    go Equal t e h l = absurd (cc)
    go Greater t e h l = absurd (cc)

module _ (names : List Iri) (P : ℕ → Type 0) (xs ys : List (Bor Iri)) (was : AreNamesOf names P (map (λ s. s.now) xs)) (moved : IsPermutation xs ys) (up : IsSorted text_cmp ys) where
  abbrev found : List Iri
  found = map (λ (s : Bor Iri). s.now) xs

  abbrev answer : List Iri
  answer = map (λ (s : Bor Iri). s.now) ys

  same_names : IsPermutation found answer
  same_names = IsPermutation-map (λ (s : Bor Iri). s.now) xs ys moved

  far : (i j : ℕ) (d : Iri) → i < j → j < length answer → is_lt (slice_cmp nat_cmp (get_or answer j d) (get_or answer i d)) ≡ false
  far i j d low high = go ys up (subst (λ n. j < n) (length-map ys (λ (s : Bor Iri). s.now)) high)
    where
      go : (zs : List (Bor Iri)) → IsSorted text_cmp zs → j < length zs → is_lt (slice_cmp nat_cmp (get_or (map (λ (s : Bor Iri). s.now) zs) j d) (get_or (map (λ (s : Bor Iri). s.now) zs) i d)) ≡ false
      go [] sorted below = absurd (omega arith)
      go (z ∷ zs) sorted below =
          let first = get_or-map (λ (s : Bor Iri). s.now) (z ∷ zs) j z d below in
          let second = get_or-map (λ (s : Bor Iri). s.now) (z ∷ zs) i z d (omega arith) in
          rw (first, second) (sorted_far (λ (a b : Bor Iri). is_lt (text_cmp a b)) (ranks_by nat_list_cmp_total (λ (s : Bor Iri). s.now)) (z ∷ zs) sorted i j z (omega arith) below)

  ordered : AreInByteOrder answer
  ordered i j d low high = only_less (get_or answer i d) (get_or answer j d) (far i j d low high)
      (apart_from_distinct bytes_eq answer i j d (IsDistinct-IsPermutation bytes_eq flips found answer same_names (apart found was.distinct)) low high)

  pub in_order : AreThose names (HasNumber names P) answer
  in_order = record {
    ordered = ordered;
    each = λ name there.
        let (m, at) = slice_get-from_Contains found name (Contains-permutation answer found name (IsPermutation-sym found answer same_names) there) in
        let (n, here, is) = was.each m name at in
        (Contains-from_slice_get names n name here, (n, here, is));
    all = λ name there is.
        let (m, at) = was.all is.0 name is.1 is.2 in
        Contains-permutation found answer name same_names (Contains-from_slice_get found m name at);
  }

-- all that are marked
pub all_marked : (names : List Iri) (marks : List Bool) (xs : List Iri) → AreMarkedBelow (length names) names marks xs → AreNamesOf names (IsMarked marks) xs
all_marked names marks xs are = record {
  distinct = are.distinct;
  each = λ m name h. (let (n, at, (low, mark)) = are.each m name h in (n, at, mark));
  all = λ n name at mark. are.all n name at (slice_get_within names n name at, mark);
}

-- those of numbers of which none stands twice
pub numbered : (names : List Iri) (numbers : List ℕ) → AreDistinct names → AreDistinct numbers → All (λ n. n < length names) numbers → AreNamesOf names (Contains numbers) (map (name_at names) numbers)
numbered names numbers apart once within = record {
  distinct = λ m n name h l.
      let (i, at, is) = from_map m name h in
      let (j, there, same) = from_map n name l in
      let one : i ≡ j = apart i j name (here m i name at is) (here n j name there same) in
      once m n i at (subst (λ k. slice_get numbers n ≡ Some k) (sym one) there);
  each = λ m name h. (let (n, at, is) = from_map m name h in (n, here m n name at is, Contains-from_slice_get numbers m n at));
  all = λ n name at there.
      let (m, is) = slice_get-from_Contains numbers n there in
      (m, slice_get_map (name_at names) numbers m n is ∙ ap (λ x. Some x) (name_is names n name at));
}
  where
    from_map : (m : ℕ) (name : Iri) → slice_get (map (name_at names) numbers) m ≡ Some name → (n : ℕ) × (slice_get numbers m ≡ Some n) × (name_at names n ≡ name)
    from_map m name h = slice_get_map_from (name_at names) numbers m name h

    here : (m n : ℕ) (name : Iri) → slice_get numbers m ≡ Some n → name_at names n ≡ name → slice_get names n ≡ Some name
    here m n name at is =
        let low : n < length names = All-contains (λ n. n < length names) numbers n within (Contains-from_slice_get numbers m n at) in
        slice_get-get_or names n [] low ∙ ap (λ x. Some x) (sym (unwrap_or-slice_get names n []) ∙ is)

-- ---- the loop over the names

pub pushed : (k : ℕ) (names : List Iri) (marks : List Bool) (old new : List (Bor Iri)) (s : Bor Iri) → AreMarkedBelow k names marks (map (λ s. s.now) old) → new ≡ old ++ s ∷ [] → AreDistinct names → slice_get names k ≡ Some s.now → IsMarked marks k
    → AreMarkedBelow (k + 1) names marks (map (λ s. s.now) new)
pushed k names marks old new s was is distinct here mark =
    let now : List (Bor Iri) → List Iri = λ xs. map (λ s. s.now) xs in
    let is_now : now new ≡ now old ++ s.now ∷ [] = ap now is ∙ map-append (λ (s : Bor Iri). s.now) old (s ∷ []) in
    subst (λ (xs : List Iri). AreMarkedBelow (k + 1) names marks xs) (sym is_now) (one_marked k names marks (now old) was s.now distinct here mark)

-- one name more, of the next number
pub named_more : (names : List Iri) (numbers : List ℕ) (k n : ℕ) (old new : List (Bor Iri)) (s : Bor Iri) → slice_get numbers k ≡ Some n → new ≡ old ++ s ∷ [] → s.now ≡ name_at names n
    → map (λ s. s.now) old ≡ map (name_at names) (take k numbers) → map (λ s. s.now) new ≡ map (name_at names) (take (k + 1) numbers)
named_more names numbers k n old new s at is here before =
    ap (map (λ (s : Bor Iri). s.now)) is ∙ map-append (λ (s : Bor Iri). s.now) old (s ∷ []) ∙ ap₂ (λ (xs : List Iri) (x : Iri). xs ++ x ∷ []) before here
    ∙ sym (ap (map (name_at names)) (take_push numbers k n at) ∙ map-append (name_at names) (take k numbers) (n ∷ []))
