-- Numbers of classes, put in the byte order of their names.
use Rattle.std.proofs.Common.{◌≡◌, ℕ, ◌+◌, ◌<◌, ◌≤◌, List, [], ◌∷◌, ◌++◌, length, Bool, true, false, not, cond, eqb, ltb, ◌&&◌, ◌||◌, inl, inr, refl, sym, ap, ap₂, subst, ◌∙◌, ⊎_elim, arith, zero-add}
use Rattle.std.specs.List.{All, filter, list_any}
use Rattle.std.proofs.lemmas.Bool.{and_from, and_parts, cases_lt, eq-eqb, eqb-true, false_from_ne_true, false≢true, le-ltb, lt-ltb, or_cases, or_left, or_right}
use Rattle.std.proofs.lemmas.List.Sorted.{ranks_by}
use Rattle.std.proofs.Math.Bool.{and-true, and_comm}
use Rattle.number_sets.specs.Members.{has}
use Rattle.number_sets.specs.Pieces.{list_at}
use Rattle.taxonomy.specs.ClassMarks.{Leads}
use Rattle.taxonomy.specs.Relation.{is_listed}
use Rattle.taxonomy.specs.Superclasses.{is_among, AreOnce, AreSuperclasses, IsSetOf}
use Rattle.taxonomy.specs.Texts.{by_name, firsts, group, groups, in_byte_order, is_directly_above, is_same, is_strictly_above, least_among, numbers_below, some_below, sorted}
use Rattle.taxonomy.proofs.Agreement.{all_in_byte_order}
use Rattle.taxonomy.proofs.ByteOrder.{by_name_total, by_name_tight}
use Rattle.taxonomy.proofs.Once.{among_below, among_filter, once_below, once_filter, same_truth}
use Rattle.taxonomy.proofs.Sizes.{group_by_size, named, strictly_by_size}
use Rattle.taxonomy.proofs.Sorts.{occ, only_one, Ascends, Ascends-filter, Ascends-firsts, Ascends-sorted, occ-sorted}

-- ---- how often a number stands in a list

occ_once : (xs : List ℕ) → AreOnce xs → (z : ℕ) → occ z xs ≡ cond (is_among xs z) 1 0
occ_once [] o z = refl
occ_once (x ∷ xs) o z = go (eqb x z) refl (occ_once xs o.1 z)
  where
    go : (b : Bool) → eqb x z ≡ b → occ z xs ≡ cond (is_among xs z) 1 0 → (cond {A = ℕ} b 1 0 + occ z xs) ≡ cond (b || is_among xs z) 1 0
    go true e next = ap (λ (n : ℕ). 1 + n) (next ∙ ap (λ b. cond {A = ℕ} b 1 0) (ap (is_among xs) (sym (eqb-true x z e)) ∙ o.0))
    go false e next = zero-add (occ z xs) ∙ next

among_occ : (xs : List ℕ) (z : ℕ) → is_among xs z ≡ true → 0 < occ z xs
among_occ [] z h = absurd (false≢true h)
among_occ (x ∷ xs) z h =
    elim (or_cases (eqb x z) (is_among xs z) h) [
      | inl e ↦ let one : cond {A = ℕ} (eqb x z) 1 0 ≡ 1 = ap (λ b. cond {A = ℕ} b 1 0) e in omega (arith, one)
      | inr e ↦ let more = among_occ xs z e in omega (arith, more)
    ]

occ_among : (xs : List ℕ) (z : ℕ) → 0 < occ z xs → is_among xs z ≡ true
occ_among [] z h = absurd (omega (arith, h))
occ_among (x ∷ xs) z h = go (eqb x z) h (occ_among xs z)
  where
    go : (b : Bool) → 0 < (cond {A = ℕ} b 1 0 + occ z xs) → (0 < occ z xs → is_among xs z ≡ true) → (b || is_among xs z) ≡ true
    go true h next = refl
    go false h next = next (omega (arith, h))

once_occ : (xs : List ℕ) → ((z : ℕ) → occ z xs ≤ 1) → AreOnce xs
once_occ [] h = tt
once_occ (x ∷ xs) h = (
  false_from_ne_true (is_among xs x) (λ t.
      let one : cond {A = ℕ} (eqb x x) 1 0 ≡ 1 = ap (λ b. cond {A = ℕ} b 1 0) (eq-eqb x x refl) in
      let most = h x in
      let some = among_occ xs x t in
      absurd (omega (arith, one, most, some))),
  once_occ xs (λ z. let most = h z in omega (arith, most)),
)

one_or_none : (b : Bool) → cond {A = ℕ} b 1 0 ≤ 1
one_or_none true = omega arith
one_or_none false = omega arith

-- ---- the byte order of names

module _ (names : List (List ℕ)) where
  abbrev pub order : List ℕ
  order = in_byte_order names

  moved : (z : ℕ) (ns : List ℕ) → occ z (sorted (by_name names) ns) ≡ occ z ns
  moved z ns = occ-sorted (by_name names) (ranks_by (by_name_total names) (λ x. x)) z ns

  up : (ns : List ℕ) → Ascends (by_name names) (sorted (by_name names) ns)
  up ns = Ascends-sorted (by_name names) (ranks_by (by_name_total names) (λ x. x)) ns

  once_order : AreOnce order
  once_order =
      once_occ order (λ z.
      let e = moved z (numbers_below (length names)) ∙ occ_once (numbers_below (length names)) (once_below (length names)) z in
      let small = one_or_none (is_among (numbers_below (length names)) z) in
      omega (arith, e, small))

  among_order : (z : ℕ) → is_among order z ≡ ltb z (length names)
  among_order z =
      let ns = numbers_below (length names) in
      let e = moved z ns in
      same_truth (is_among order z) (ltb z (length names))
      (λ t. sym (among_below (length names) z) ∙ occ_among ns z (let some = among_occ order z t in omega (arith, e, some)))
      (λ t. occ_among order z (let some = among_occ ns z (among_below (length names) z ∙ t) in omega (arith, e, some)))

  -- numbers in order are the one list in order that has them
  pub placed : (xs ys : List ℕ) → AreOnce xs → AreOnce ys → ((z : ℕ) → is_among xs z ≡ is_among ys z) → Ascends (by_name names) ys → sorted (by_name names) xs ≡ ys
  placed xs ys ox oy same ascends =
      only_one (by_name names) (ranks_by (by_name_total names) (λ x. x)) (by_name_tight names) (sorted (by_name names) xs) ys (up xs) ascends
      (λ z. moved z xs ∙ occ_once xs ox z ∙ ap (λ b. cond {A = ℕ} b 1 0) (same z) ∙ sym (occ_once ys oy z))

  -- ---- those that stand for groups

  module _ (r : ℕ → ℕ → Bool) where
    firsts_none : (before cs : List ℕ) (x : ℕ) → is_among cs x ≡ false → is_among (firsts r before cs) x ≡ false
    firsts_none before [] x h = h
    firsts_none before (c ∷ cs) x h =
        let other : eqb c x ≡ false = false_from_ne_true (eqb c x) (λ t. false≢true (sym h ∙ or_left (eqb c x) (is_among cs x) t)) in
        let rest : is_among cs x ≡ false = false_from_ne_true (is_among cs x) (λ t. false≢true (sym h ∙ or_right (eqb c x) (is_among cs x) t)) in
        elim (list_any (is_same r c) before) as (λ b. is_among (cond b (firsts r before cs) (c ∷ firsts r (before ++ c ∷ []) cs)) x ≡ false) [
          | true ↦ firsts_none before cs x rest
          | false ↦ ap₂ (λ a b. a || b) other (firsts_none (before ++ c ∷ []) cs x rest)
        ]

    once_firsts : (before cs : List ℕ) → AreOnce cs → AreOnce (firsts r before cs)
    once_firsts before [] o = tt
    once_firsts before (c ∷ cs) o =
        elim (list_any (is_same r c) before) as (λ b. AreOnce (cond b (firsts r before cs) (c ∷ firsts r (before ++ c ∷ []) cs))) [
          | true ↦ once_firsts before cs o.1
          | false ↦ (firsts_none (before ++ c ∷ []) cs c o.0, once_firsts (before ++ c ∷ []) cs o.1)
        ]

    groups_beyond : (x : ℕ) → length names ≤ x → is_among (groups r order) x ≡ false
    groups_beyond x l = firsts_none [] order x (among_order x ∙ le-ltb x (length names) l)

    -- of those that stand for groups the ones that pass, put in order
    pub leaders_placed : (t : ℕ → Bool) (xs : List ℕ) → AreOnce xs → ((h : ℕ) → h < length names → is_among xs h ≡ (t h && is_among (groups r order) h)) → ((h : ℕ) → length names ≤ h → is_among xs h ≡ false)
        → sorted (by_name names) xs ≡ filter t (groups r order)
    leaders_placed t xs o within beyond =
        let ys = groups r order in
        placed xs (filter t ys) o (once_filter t ys (once_firsts [] order once_order))
        (λ h. ⊎_elim
        (λ l. within h l ∙ and_comm (t h) (is_among ys h) ∙ sym (among_filter t ys h))
        (λ l. beyond h l ∙ sym (among_filter t ys h ∙ ap (λ b. b && t h) (groups_beyond h l)))
        (cases_lt h (length names)))
        (Ascends-filter (by_name names) t ys (Ascends-firsts (by_name names) r [] order (up (numbers_below (length names)))))

-- ---- what stands among the least

pub among_found : (p : ℕ → Bool) (xs : List ℕ) → list_any p xs ≡ true → (k : ℕ) × (is_among xs k ≡ true) × (p k ≡ true)
among_found p [] h = absurd (false≢true h)
among_found p (x ∷ xs) h =
    elim (or_cases (p x) (list_any p xs) h) [
      | inl e ↦ (x, or_left (eqb x x) (is_among xs x) (eq-eqb x x refl), e)
      | inr e ↦ let w = among_found p xs e in (w.0, or_right (eqb x w.0) (is_among xs w.0) w.1, w.2)
    ]

pub any_at : (p : ℕ → Bool) (xs : List ℕ) (k : ℕ) → is_among xs k ≡ true → p k ≡ true → list_any p xs ≡ true
any_at p [] k h e = absurd (false≢true h)
any_at p (x ∷ xs) k h e =
    elim (or_cases (eqb x k) (is_among xs k) h) [
      | inl q ↦ or_left (p x) (list_any p xs) (ap p (eqb-true x k q) ∙ e)
      | inr q ↦ or_right (p x) (list_any p xs) (any_at p xs k q e)
    ]

some_at : (n : ℕ) (p : ℕ → Bool) (k : ℕ) → k < n → p k ≡ true → some_below n p ≡ true
some_at n p k l h = any_at p (numbers_below n) k (among_below n k ∙ lt-ltb k n l) h

any_among : (p q : ℕ → Bool) (xs : List ℕ) (n : ℕ) → ((k : ℕ) → is_among xs k ≡ q k) → ((k : ℕ) → p k ≡ true → k < n) → list_any p xs ≡ some_below n (λ k. q k && p k)
any_among p q xs n each low =
    same_truth (list_any p xs) (some_below n (λ k. q k && p k))
    (λ t. let w = among_found p xs t in some_at n (λ k. q k && p k) w.0 (low w.0 w.2) (and_from (q w.0) (p w.0) (sym (each w.0) ∙ w.1) w.2))
    (λ t.
    let w = among_found (λ k. q k && p k) (numbers_below n) t in
    let both = and_parts (q w.0) (p w.0) w.2 in
    any_at p xs w.0 (each w.0 ∙ both.0) both.1)

and_known : (a b : Bool) → (b ≡ true → a ≡ true) → (a && b) ≡ b
and_known true b h = refl
and_known false true h = h refl
and_known false false h = refl

and_false : (b : Bool) → (b && false) ≡ false
and_false true = refl
and_false false = refl

-- the numbers of names in byte order
pub order_below : (names : List (List ℕ)) (n : ℕ) (given : List ℕ) → given ≡ in_byte_order names → length names ≡ n → All (λ c. c < n) given
order_below names n given e long =
    let all = subst (λ m. All (λ c. c < m) (in_byte_order names)) long (all_in_byte_order names) in rw e all

module _ (lists : List (List ℕ)) (s : AreSuperclasses lists) (names : List (List ℕ)) (long : length names ≡ length lists) where
  -- a group in order
  pub group_placed : (g : ℕ) (xs : List ℕ) → xs ≡ filter (λ h. eqb (length (list_at lists h)) (length (list_at lists g))) (list_at lists g) → sorted (by_name names) xs ≡ group (is_listed lists) (in_byte_order names) g
  group_placed g xs e =
      let sized : ℕ → Bool = λ h. eqb (length (list_at lists h)) (length (list_at lists g)) in
      let same = is_same (is_listed lists) g in
      placed names xs (filter same (in_byte_order names))
      (rw e (once_filter sized (list_at lists g) (s.sets.once g)))
      (once_filter same (in_byte_order names) (once_order names))
      (λ z.
      ap (λ v. is_among v z) e ∙ among_filter sized (list_at lists g) z ∙ group_by_size lists s g z
      ∙ sym (among_filter same (in_byte_order names) z
      ∙ ap (λ b. b && same z) (among_order names z)
      ∙ and_known (ltb z (length names)) (same z) (λ t. lt-ltb z (length names) (let w = s.sets.within g z (and_parts (is_listed lists g z) (is_listed lists z g) t).0 in omega (arith, long, w)))))
      (Ascends-filter (by_name names) same (in_byte_order names) (up names (numbers_below (length names))))

  strictly_low : (g h : ℕ) → is_strictly_above (is_listed lists) g h ≡ true → h < length lists
  strictly_low g h t = s.sets.within g h (and_parts (is_listed lists g h) (not (is_listed lists h g)) t).0

  -- those of numbers that no other of them is strictly below
  least_are : (q : ℕ → Bool) (numbers least : List ℕ) → ((k : ℕ) → is_among numbers k ≡ q k) → least ≡ filter (λ g. not (list_any (λ k. is_strictly_above (is_listed lists) k g) numbers)) numbers
      → (h : ℕ) → is_among least h ≡ least_among (length lists) (is_listed lists) q h
  least_are q numbers least each e h =
      ap (λ v. is_among v h) e
      ∙ among_filter (λ g. not (list_any (λ k. is_strictly_above (is_listed lists) k g) numbers)) numbers h
      ∙ ap₂ (λ a b. a && not b) (each h) (any_among (λ k. is_strictly_above (is_listed lists) k h) q numbers (length lists) each (λ k t. named_low k h t))
    where
      named_low : (k h : ℕ) → is_strictly_above (is_listed lists) k h ≡ true → k < length lists
      named_low k h t = named lists k h (and_parts (is_listed lists k h) (not (is_listed lists h k)) t).0

  module _ (leading : List Bool) (leads : Leads lists names leading) where
    -- what stands for the groups directly above, in order
    pub above_placed : (g : ℕ) (higher direct shown : List ℕ) → higher ≡ filter (λ h. ltb (length (list_at lists h)) (length (list_at lists g))) (list_at lists g)
        → direct ≡ filter (λ g. not (list_any (λ k. is_strictly_above (is_listed lists) k g) higher)) higher → shown ≡ filter (has leading) direct
        → sorted (by_name names) shown ≡ filter (is_directly_above (is_listed lists) (length lists) g) (groups (is_listed lists) (in_byte_order names))
    above_placed g higher direct shown eh ed es =
        let sized : ℕ → Bool = λ h. ltb (length (list_at lists h)) (length (list_at lists g)) in
        let strict = is_strictly_above (is_listed lists) g in
        let covered : ℕ → Bool = λ h. not (list_any (λ k. is_strictly_above (is_listed lists) k h) higher) in
        let is_direct = is_directly_above (is_listed lists) (length lists) g in
        let higher_are : (k : ℕ) → is_among higher k ≡ strict k = λ k. ap (λ v. is_among v k) eh ∙ among_filter sized (list_at lists g) k ∙ strictly_by_size lists s g k in
        let direct_are = least_are strict higher direct higher_are ed in
        let shown_are : (h : ℕ) → is_among shown h ≡ (is_direct h && has leading h) = λ h. ap (λ v. is_among v h) es ∙ among_filter (has leading) direct h ∙ ap (λ b. b && has leading h) (direct_are h) in
        leaders_placed names (is_listed lists) is_direct shown
        (rw (es, ed) (once_filter (has leading) (filter covered higher) (once_filter covered higher (rw eh (once_filter sized (list_at lists g) (s.sets.once g))))))
        (λ h l. shown_are h ∙ ap (λ b. is_direct h && b) (leads h (omega (arith, long, l))))
        (λ h l.
        shown_are h
        ∙ ap (λ b. (b && not (some_below (length lists) (λ k. strict k && is_strictly_above (is_listed lists) k h))) && has leading h)
        (false_from_ne_true (strict h) (λ t. let w = strictly_low g h t in absurd (omega (arith, long, w, l)))))

    -- what stands for the least groups of types, in order
    pub types_placed : (types least shown once : List ℕ) → least ≡ filter (λ g. not (list_any (λ k. is_strictly_above (is_listed lists) k g) types)) types
        → shown ≡ filter (has leading) least → IsSetOf (length lists) shown once
        → sorted (by_name names) once ≡ filter (least_among (length lists) (is_listed lists) (is_among types)) (groups (is_listed lists) (in_byte_order names))
    types_placed types least shown once el es set =
        let is_least = least_among (length lists) (is_listed lists) (is_among types) in
        let shown_are : (h : ℕ) → is_among shown h ≡ (is_least h && has leading h) = λ h. ap (λ v. is_among v h) es ∙ among_filter (has leading) least h ∙ ap (λ b. b && has leading h) (least_are (is_among types) types least (λ k. refl) el h) in
        leaders_placed names (is_listed lists) is_least once set.once
        (λ h l.
        let low : h < length lists = omega (arith, long, l) in
        set.members h ∙ ap₂ (λ a b. a && b) (shown_are h) (lt-ltb h (length lists) low) ∙ and-true (is_least h && has leading h) ∙ ap (λ b. is_least h && b) (leads h low))
        (λ h l. set.members h ∙ ap (λ b. is_among shown h && b) (le-ltb h (length lists) (omega (arith, long, l))) ∙ and_false (is_among shown h))
