-- Rows of classes that grow element by element, by keys in order.
use Rattle.std.proofs.Common.{◌≡◌, ◌↔◌, ℕ, zero, suc, ◌+◌, ◌/◌, ◌%◌, ◌^◌, ◌<◌, ◌≤◌, ◌⊎◌, inl, inr, List, [], ◌∷◌, ◌++◌, length, map, get_or, take, slice_get, Some, AllPairs, Contains, refl, sym, ap, ap₂, ◌∙◌, subst, subst₂, arith}
use Rattle.std.proofs.lemmas.Bool.{cases_eq, cases_lt}
use Rattle.std.proofs.lemmas.List.{append-nil, length-map, length_push, map-append, take_all}
use Rattle.std.proofs.lemmas.List.Elements.{Contains-append_left, Contains-get_or, Contains-push, Contains-push_cases}
use Rattle.std.proofs.lemmas.Option.{get_or_from_slice_get, none-some, same_Some}
use Rattle.lemmas.proofs.Mapped.{slice_get_map, slice_get_map_from}
use Rattle.lemmas.proofs.Members.{Contains-first, Contains-from_slice_get, Contains-none, Contains-one, slice_get-from_Contains}
use Rattle.lemmas.proofs.Places.{keeps_push, slice_get_push, slice_get_push_cases, slice_get_take}
use Rattle.number_sets.proofs.Members.{none_taken, one_more_taken}
use Rattle.certificate.specs.View.{class_row_of}
use Rattle.certificate.specs.Writability.{Ascends}
use Rattle.certificate.specs.declared.listed.ClassRow.{ClassRow}
use Rattle.axioms.specs.Ontology.{Ontology}
use Rattle.closure.specs.Closure.{Context}
use Rattle.exactness.specs.ListedInterpretation.{IsBefore}
use Rattle.facts.specs.declared.contexts.Fact.{Fact}
use Rattle.countermodel.specs.Members.{AddsMember, AreRowsBy, HasKey, HasNoMember, IsLastRow, IsMember, SayMembers, as_row, to_last}
use Rattle.countermodel.proofs.Ends.{ends}
use Rattle.countermodel.proofs.LastRow.{one_last}
use Rattle.countermodel.proofs.Members.{one_member}
use Rattle.exactness.proofs.Trimmed.{Ascends-push}

-- a class with its elements
abbrev pub Row : Type 0
Row = ℕ × List ℕ

abbrev row_at : ℕ → List ℕ → Row
row_at e xs = (e, xs)

abbrev classes_of : List Row → List ℕ
classes_of rows = map (λ (r : Row). r.0) rows

-- what comes before the last number is less
before_last : (xs : List ℕ) (y : ℕ) → Ascends (xs ++ y ∷ []) → (k x : ℕ) → slice_get xs k ≡ Some x → x < y
before_last [] y h k x at = absurd (none-some x at)
before_last (z ∷ []) y h zero x at = let same : z ≡ x = same_Some z x at in subst (λ n. n < y) same h.0
before_last (z ∷ []) y h (suc k) x at = absurd (none-some x at)
before_last (z ∷ w ∷ ws) y h zero x at =
    let same : z ≡ x = same_Some z x at in
    let next : w < y = before_last (w ∷ ws) y h.1 zero w refl in
    let low : z < w = h.0 in
    omega arith
before_last (z ∷ w ∷ ws) y h (suc k) x at = before_last (w ∷ ws) y h.1 k x at

-- the element comes behind what was said of the class, and the class behind all others
abbrev pub ComesBehind : (ℕ → ℕ → Type 0) → ℕ → ℕ → Type 0
ComesBehind Has e m = (f n : ℕ) → Has f n → (f < e) ⊎ ((f ≡ e) × (n < m))

-- what is said now is what was said, and this
abbrev pub SaysMore : (Has : ℕ → ℕ → Type 0) → (More : ℕ → ℕ → Type 0) → ℕ → ℕ → Type 0
SaysMore Has More e m = (f n : ℕ) → More f n ↔ (Has f n ⊎ ((f ≡ e) × (n ≡ m)))

module _ (Has More : ℕ → ℕ → Type 0) (e m : ℕ) (behind : ComesBehind Has e m) (more : SaysMore Has More e m) where
  -- a row of another class says the same
  abbrev Says : (ℕ → ℕ → Type 0) → Row → Type 0
  Says P row = (0 < length row.1) × Ascends row.1 × ((n : ℕ) → Contains row.1 n ↔ P row.0 n)

  same_row : (row : Row) → row.0 < e → Says Has row → Says More row
  same_row row low says = (
    says.0,
    says.1,
    λ n. (
      λ c. (more row.0 n).1 (inl ((says.2 n).0 c)),
      λ h. elim ((more row.0 n).0 h) [ inl before ↦ (says.2 n).1 before | inr this ↦ absurd (omega (arith, this.0, low)) ],
    ),
  )

  -- a row's class does not come behind
  up_to : (row : Row) → Says Has row → row.0 ≤ e
  up_to row says =
      let c = Contains-get_or row.1 0 0 says.0 in
      elim (behind row.0 (get_or row.1 0 0) ((says.2 (get_or row.1 0 0)).0 c)) [ inl l ↦ omega (arith, l) | inr s ↦ omega (arith, s.0) ]

  longer : (front : List Row) (xs : List ℕ) → AreRowsBy Has (front ++ (e, xs) ∷ []) → AreRowsBy More (front ++ (e, xs ++ m ∷ []) ∷ [])
  longer front xs are = record {
    ascend = subst Ascends (keys xs ∙ sym (keys (xs ++ m ∷ []))) are.ascend;
    each = λ k row at. elim (slice_get_push_cases front new k row at) [
      | inl before ↦ same_row row (earlier k row before) (are.each k row (keeps_push front old k row before))
      | inr here ↦ subst (Says More) here.1 grown
    ];
    all = λ f n h. elim ((more f n).0 h) [
      | inl before ↦ there f (are.all f n before)
      | inr this ↦ (length front, new, slice_get_push front new, sym this.0)
    ];
  }
    where
      old : Row
      old = (e, xs)

      new : Row
      new = (e, xs ++ m ∷ [])

      keys : (ys : List ℕ) → map (λ (r : Row). r.0) (front ++ (e, ys) ∷ []) ≡ classes_of front ++ e ∷ []
      keys ys = map-append (λ (r : Row). r.0) front ((e, ys) ∷ [])

      earlier : (k : ℕ) (row : Row) → slice_get front k ≡ Some row → row.0 < e
      earlier k row at = before_last (classes_of front) e (subst Ascends (keys xs) are.ascend) k row.0 (slice_get_map (λ (r : Row). r.0) front k row at)

      said : Says Has old
      said = are.each (length front) old (slice_get_push front old)

      grown : Says More new
      grown = (
        omega (arith, length_push xs m),
        Ascends-push xs m said.1 (λ k x at. elim (behind e x ((said.2 x).0 (Contains-from_slice_get xs k x at))) [ inl l ↦ absurd (omega (arith, l)) | inr s ↦ s.1 ]),
        λ n. (
          λ c. elim (Contains-push_cases xs m n c) [ inl before ↦ (more e n).1 (inl ((said.2 n).0 before)) | inr same ↦ (more e n).1 (inr (refl, sym same)) ],
          λ h. elim ((more e n).0 h) [
            | inl before ↦ Contains-append_left xs (m ∷ []) n ((said.2 n).1 before)
            | inr this ↦ subst (Contains (xs ++ m ∷ [])) (sym this.1) (Contains-push xs m)
          ],
        ),
      )

      there : (f : ℕ) → (k : ℕ) × (row : Row) × (slice_get (front ++ old ∷ []) k ≡ Some row) × (row.0 ≡ f) → (k : ℕ) × (row : Row) × (slice_get (front ++ new ∷ []) k ≡ Some row) × (row.0 ≡ f)
      there f (k, row, at, is) = elim (slice_get_push_cases front old k row at) [
        | inl before ↦ (k, row, keeps_push front new k row before, is)
        | inr here ↦ (length front, new, slice_get_push front new, ap (λ (r : Row). r.0) here.1 ∙ is)
      ]

  one_more : (rows : List Row) → (IsLastRow e rows → ⊥) → AreRowsBy Has rows → AreRowsBy More (rows ++ (e, m ∷ []) ∷ [])
  one_more rows other are = record {
    ascend = subst Ascends (sym (map-append (λ (r : Row). r.0) rows (new ∷ []))) (Ascends-push (classes_of rows) e are.ascend below);
    each = λ k row at. elim (slice_get_push_cases rows new k row at) [
      | inl before ↦ same_row row (less k row before) (are.each k row before)
      | inr here ↦ subst (Says More) here.1 first
    ];
    all = λ f n h. elim ((more f n).0 h) [
      | inl before ↦ (let w = are.all f n before in (w.0, w.1, keeps_push rows new w.0 w.1 w.2, w.3))
      | inr this ↦ (length rows, new, slice_get_push rows new, sym this.0)
    ];
  }
    where
      new : Row
      new = (e, m ∷ [])

      less : (k : ℕ) (row : Row) → slice_get rows k ≡ Some row → row.0 < e
      less k row at = elim (ends rows) [
        | inl none ↦ absurd (none-some row (subst (λ (rs : List Row). slice_get rs k ≡ Some row) none at))
        | inr (front, last, is) ↦
            let there : slice_get rows (length front) ≡ Some last = subst (λ (rs : List Row). slice_get rs (length front) ≡ Some last) (sym is) (slice_get_push front last) in
            let low : last.0 ≤ e = up_to last (are.each (length front) last there) in
            let apart : last.0 ≡ e → ⊥ = λ same. other (front, last.1, is ∙ ap (λ (c : ℕ). front ++ row_at c last.1 ∷ []) same) in
            let keys : Ascends (classes_of front ++ last.0 ∷ []) = subst Ascends (ap (λ (rs : List Row). classes_of rs) is ∙ map-append (λ (r : Row). r.0) front (last ∷ [])) are.ascend in
            elim (slice_get_push_cases front last k row (subst (λ (rs : List Row). slice_get rs k ≡ Some row) is at)) [
              | inl before ↦
                  let l : row.0 < last.0 = before_last (classes_of front) last.0 keys k row.0 (slice_get_map (λ (r : Row). r.0) front k row before) in
                  omega (arith, l, low)
              | inr here ↦
                  let same : last.0 ≡ row.0 = ap (λ (r : Row). r.0) here.1 in
                  elim (cases_lt last.0 e) [ inl l ↦ omega (arith, l, same) | inr l ↦ absurd (apart (omega (arith, l, low))) ]
            ]
      ]

      below : (k x : ℕ) → slice_get (classes_of rows) k ≡ Some x → x < e
      below k x at =
          let (row, there, same) = slice_get_map_from (λ (r : Row). r.0) rows k x at in
          subst (λ n. n < e) same (less k row there)

      first : Says More new
      first = (
        omega arith,
        tt,
        λ n. (
          λ c. (more e n).1 (inr (refl, sym (Contains-one m n c))),
          λ h. elim ((more e n).0 h) [
            | inl before ↦ (let w = are.all e n before in absurd (omega (arith, less w.0 w.1 w.2, w.3)))
            | inr this ↦ subst (Contains (m ∷ [])) (sym this.1) (Contains-first m [])
          ],
        ),
      )

  pub member_added : (old new : List Row) → AddsMember e m old new → AreRowsBy Has old → AreRowsBy More new
  member_added old new (to_last front xs is now) are = subst (AreRowsBy More) (sym now) (longer front xs (subst (AreRowsBy Has) is are))
  member_added old new (as_row other now) are = subst (AreRowsBy More) (sym now) (one_more old other are)

-- ---- the last row

rows_with : (front : List ClassRow) (row : ClassRow) → map class_row_of (front ++ row ∷ []) ≡ map class_row_of front ++ class_row_of row ∷ []
rows_with front row = map-append class_row_of front (row ∷ [])

module _ (e m : ℕ) (old new : List ClassRow) where
  pub first_member : (now : List ClassRow) → length old ≡ 0 → old ≡ now ++ [] → map class_row_of new ≡ map class_row_of now ++ (e, m ∷ []) ∷ [] → AddsMember e m (map class_row_of old) (map class_row_of new)
  first_member now none is step = as_row
      (λ (front, xs, last). omega (arith, ap length last, length-map old class_row_of, length_push front (row_at e xs), none))
      (step ∙ ap (λ (rs : List ClassRow). map class_row_of rs ++ row_at e (m ∷ []) ∷ []) (sym (is ∙ append-nil now)))

  module _ (front : List ClassRow) (row : ClassRow) (is : old ≡ front ++ row ∷ []) where
    pub last_grown : (grown : ClassRow) → row.class.0 ≡ e → new ≡ front ++ grown ∷ [] → grown.class.0 ≡ e → grown.elements.items ≡ row.elements.items ++ m ∷ [] → AddsMember e m (map class_row_of old) (map class_row_of new)
    last_grown grown of now same more = to_last (map class_row_of front) row.elements.items
        (ap (map class_row_of) is ∙ rows_with front row ∙ ap (λ (f : ℕ). map class_row_of front ++ row_at f row.elements.items ∷ []) of)
        (ap (map class_row_of) now ∙ rows_with front grown ∙ ap₂ (λ (f : ℕ) (xs : List ℕ). map class_row_of front ++ row_at f xs ∷ []) same more)

    pub row_begun : (back : List ClassRow) → back ≡ front ++ row ∷ [] → (row.class.0 ≡ e → ⊥) → map class_row_of new ≡ map class_row_of back ++ (e, m ∷ []) ∷ [] → AddsMember e m (map class_row_of old) (map class_row_of new)
    row_begun back again other step = as_row
        (λ (before, xs, last). other (ap (λ (r : Row). r.0) (one_last (map class_row_of front) before (class_row_of row) (row_at e xs) (sym (ap (map class_row_of) is ∙ rows_with front row) ∙ last))))
        (step ∙ ap (λ (rs : List ClassRow). map class_row_of rs ++ row_at e (m ∷ []) ∷ []) (again ∙ sym is))

-- ---- keys, one after another

pub no_key : (keys : List ℕ) → AreRowsBy (HasKey (take 0 keys)) []
no_key keys = record { ascend = tt; each = λ k row at. absurd (none-some row at); all = λ e m h. absurd (none_taken keys h.0 h.1) }

module _ (keys : List ℕ) (ascend : AllPairs (λ x y. x < y) keys) (k : ℕ) (low : k < length keys) where
  key_behind : ComesBehind (HasKey (take k keys)) (get_or keys k 0 / 2 ^ 32) (get_or keys k 0 % 2 ^ 32)
  key_behind f n (q, c, class, element) =
      let (j, at) = slice_get-from_Contains (take k keys) q c in
      let (before, there) = slice_get_take k keys j q at in
      let less : q < get_or keys k 0 = subst (λ x. x < get_or keys k 0) (get_or_from_slice_get keys j q 0 there) (ascend j k 0 before low) in
      elim (cases_eq f (get_or keys k 0 / 2 ^ 32)) [ inl same ↦ inr (same, omega arith) | inr apart ↦ inl (omega arith) ]

  key_says : SaysMore (HasKey (take k keys)) (HasKey (take (k + 1) keys)) (get_or keys k 0 / 2 ^ 32) (get_or keys k 0 % 2 ^ 32)
  key_says f n = (
    λ h. elim ((one_more_taken keys k 0 h.0 low).0 h.1) [
      | inl before ↦ inl (h.0, before, h.2, h.3)
      | inr here ↦ inr (sym h.2 ∙ ap (λ (x : ℕ). x / 2 ^ 32) (sym here), sym h.3 ∙ ap (λ (x : ℕ). x % 2 ^ 32) (sym here))
    ],
    λ h. elim h [
      | inl p ↦ (p.0, (one_more_taken keys k 0 p.0 low).1 (inl p.1), p.2, p.3)
      | inr this ↦ (get_or keys k 0, (one_more_taken keys k 0 (get_or keys k 0) low).1 (inr refl), sym this.0, sym this.1)
    ],
  )

  pub key_added : (old new : List Row) → AddsMember (get_or keys k 0 / 2 ^ 32) (get_or keys k 0 % 2 ^ 32) old new → AreRowsBy (HasKey (take k keys)) old → AreRowsBy (HasKey (take (k + 1) keys)) new
  key_added = member_added (HasKey (take k keys)) (HasKey (take (k + 1) keys)) (get_or keys k 0 / 2 ^ 32) (get_or keys k 0 % 2 ^ 32) key_behind key_says

pub all_keys : (keys : List ℕ) (k : ℕ) (rows : List Row) → length keys ≤ k → AreRowsBy (HasKey (take k keys)) rows → AreRowsBy (HasKey keys) rows
all_keys keys k rows done = subst (λ (ks : List ℕ). AreRowsBy (HasKey ks) rows) (take_all k keys done)

-- ---- facts, one after another

module _ (o : Ontology) (elements : List Context) (facts : List Fact) where
  pub none_said : SayMembers o elements (take 0 facts) (HasKey [])
  none_said e m = (λ h. absurd (Contains-none h.0 h.1), λ h. absurd (none_taken facts h.0 h.1))

  module _ (keys : List ℕ) (k : ℕ) (d : Fact) (low : k < length facts) (was : SayMembers o elements (take k facts) (HasKey keys)) where
    pub nothing_said : HasNoMember o elements (get_or facts k d) → SayMembers o elements (take (k + 1) facts) (HasKey keys)
    nothing_said never e m = (
      λ h. (let (f, c, is) = (was e m).0 h in (f, (one_more_taken facts k d f low).1 (inl c), is)),
      λ (f, c, is). elim ((one_more_taken facts k d f low).0 c) [
        | inl before ↦ (was e m).1 (f, before, is)
        | inr here ↦ absurd (never e m (subst (λ (g : Fact). IsMember o elements g e m) (sym here) is))
      ],
    )

    pub one_said : AllPairs IsBefore elements → (e m : ℕ) → IsMember o elements (get_or facts k d) e m → (key : ℕ) → key / 2 ^ 32 ≡ e → key % 2 ^ 32 ≡ m → SayMembers o elements (take (k + 1) facts) (HasKey (keys ++ key ∷ []))
    one_said ascend e m is key class element f n = (
      λ (q, c, q_class, q_element). elim (Contains-push_cases keys key q c) [
        | inl before ↦ (let (g, c', is') = (was f n).0 (q, before, q_class, q_element) in (g, (one_more_taken facts k d g low).1 (inl c'), is'))
        | inr same ↦ (
          get_or facts k d,
          (one_more_taken facts k d (get_or facts k d) low).1 (inr refl),
          subst₂ (IsMember o elements (get_or facts k d)) (sym class ∙ ap (λ (x : ℕ). x / 2 ^ 32) same ∙ q_class) (sym element ∙ ap (λ (x : ℕ). x % 2 ^ 32) same ∙ q_element) is,
        )
      ],
      λ (g, c, is'). elim ((one_more_taken facts k d g low).0 c) [
        | inl before ↦ (let (q, c', q_class, q_element) = (was f n).1 (g, before, is') in (q, Contains-append_left keys (key ∷ []) q c', q_class, q_element))
        | inr here ↦
            let same = one_member o elements ascend (get_or facts k d) e m f n is (subst (λ (x : Fact). IsMember o elements x f n) (sym here) is') in
            (key, Contains-push keys key, class ∙ sym same.0, element ∙ sym same.1)
      ],
    )

  pub all_said : (keys : List ℕ) (k : ℕ) → length facts ≤ k → SayMembers o elements (take k facts) (HasKey keys) → SayMembers o elements facts (HasKey keys)
  all_said keys k done = subst (λ (fs : List Fact). SayMembers o elements fs (HasKey keys)) (take_all k facts done)

  -- the same keys in another order say the same
  pub same_keys : (keys sorted : List ℕ) → ((n : ℕ) → Contains sorted n ↔ Contains keys n) → SayMembers o elements facts (HasKey keys) → SayMembers o elements facts (HasKey sorted)
  same_keys keys sorted same says e m = (
    λ (q, c, class, element). (says e m).0 (q, (same q).0 c, class, element),
    λ f. (let (q, c, class, element) = (says e m).1 f in (q, (same q).1 c, class, element)),
  )
